-- A resend changes neither address nor nonce: slots that do not clash still do not. Assumes nothing.
use mathlib.Core.Path.{◌≡◌, refl}
use mathlib.Core.Bool.{Bool, true, false, cond}
use Prim.Native.Nat.{ℕ}
use Rattle.check_times.specs.Times.{is_due}
use Rattle.slot.specs.declared.Check.{Check}
use Rattle.slot.specs.declared.Status.{Status}
use Rattle.slot.specs.declared.Status.TheVariants.{Unverified, Active, Deprecated}
use Rattle.slot.specs.declared.Slot.{Slot}
use Rattle.slot.specs.Found.{on_held}
use Rattle.slot.specs.Clashes.{same_nonce, clash_held, clash}
use Rattle.slot.specs.Checks.{resent, resend_status, resend_locator, resend_slot}
use Rattle.slot.proofs.Settled.{Clear}
use Rattle.std.specs.Prelude.{None, Option, Some}
use Rattle.slot.specs.declared.Locator.{Locator}

module _ (time : ℕ) where
  checks_same : (k m : Check) (b c : Bool) →
      same_nonce (cond b (Unverified (resent time k)) (Unverified k)) (cond c (Unverified (resent time m)) (Unverified m)) ≡ same_nonce (Unverified k) (Unverified m)
  checks_same k m true true = refl
  checks_same k m true false = refl
  checks_same k m false true = refl
  checks_same k m false false = refl

  checkless_same : (k : Check) (b : Bool) (s : Status) → same_nonce (Unverified k) s ≡ false → same_nonce (cond b (Unverified (resent time k)) (Unverified k)) s ≡ false
  checkless_same k true (Unverified m) p = p
  checkless_same k true Active p = refl
  checkless_same k true Deprecated p = refl
  checkless_same k false s p = p

  nonces_same : (s t : Status) → same_nonce (resend_status time s) (resend_status time t) ≡ same_nonce s t
  nonces_same (Unverified k) (Unverified m) = checks_same k m (is_due k.issued k.resends time) (is_due m.issued m.resends time)
  nonces_same (Unverified k) Active = checkless_same k (is_due k.issued k.resends time) Active refl
  nonces_same (Unverified k) Deprecated = checkless_same k (is_due k.issued k.resends time) Deprecated refl
  nonces_same Active t = refl
  nonces_same Deprecated t = refl

  pub resent_clear : (x y : Slot) → Clear x y → Clear (resend_slot time x) (resend_slot time y)
  unfolding clash
  resent_clear x y p = go x.holding y.holding p
    where
      go : (h g : Option Locator) → clash_held h g ≡ false → clash_held (on_held (resend_locator time) h) (on_held (resend_locator time) g) ≡ false
      go None g p = refl
      go (Some l) None p = refl
      go (Some l) (Some m) p = rw (nonces_same l.status m.status) p
