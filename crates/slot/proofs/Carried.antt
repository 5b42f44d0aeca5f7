-- What holds of the check that a slot carries, where it carries one, and what keeps it. Assumes nothing.
use mathlib.Core.Path.{◌≡◌, refl}
use mathlib.Core.Bool.{Bool, true, false, cond}
use mathlib.Core.Logic.{◌⊎◌, inl, inr}
use Prim.Native.Nat.{ℕ}
use lib.Dec.{leb}
use Rattle.boolean.proofs.Laws.{apart, or_false_right}
use Rattle.check_times.specs.Times.{is_due, is_given_up}
use Rattle.slot.specs.declared.Check.{Check}
use Rattle.slot.specs.declared.Status.{Status}
use Rattle.slot.specs.declared.Status.TheVariants.{Unverified, Active, Deprecated}
use Rattle.slot.specs.declared.Locator.{Locator}
use Rattle.slot.specs.declared.Slot.{Slot}
use Rattle.slot.specs.Found.{with_status, on_held, on_locator, status_of, is_unverified, found_as, held_as}
use Rattle.slot.specs.Checks.{given_up, resent, resend_status, resend_slot}
use Rattle.slot.specs.Expiry.{is_over, expire_held, expire_slot}
use Rattle.slot.proofs.Settled.{Settles}
use Rattle.std.specs.Prelude.{None, Option, Some}

-- P holds of the check of this status
abbrev pub CarriedBy : (Check → Type 0) → Status → Type 0
CarriedBy P (Unverified k) = P k
CarriedBy P Active = Unit {0}
CarriedBy P Deprecated = Unit {0}

-- of what is held
abbrev pub HeldBy : (Check → Type 0) → Option Locator → Type 0
HeldBy P None = Unit {0}
HeldBy P (Some l) = CarriedBy P l.status

-- of a slot
abbrev pub Carries : (Check → Type 0) → Slot → Type 0
Carries P s = HeldBy P s.holding

-- a test of the check that a slot carries fails exactly where its failing is carried
abbrev pub Fails : (test : Status → Bool) → Check → Type 0
Fails test k = test (Unverified k) ≡ false

module _ (test : Status → Bool) (active : test Active ≡ false) (deprecated : test Deprecated ≡ false) where
  pub fails_carries : (s : Slot) → held_as test s ≡ false → Carries (Fails test) s
  fails_carries s p = go s.holding p
    where
      status : (t : Status) → test t ≡ false → CarriedBy (Fails test) t
      status (Unverified k) q = q
      status Active q = tt
      status Deprecated q = tt

      go : (h : Option Locator) → found_as test (status_of h) ≡ false → HeldBy (Fails test) h
      go None q = tt
      go (Some l) q = status l.status q

  pub carries_fails : (s : Slot) → Carries (Fails test) s → held_as test s ≡ false
  carries_fails s p = go s.holding p
    where
      status : (t : Status) → CarriedBy (Fails test) t → test t ≡ false
      status (Unverified k) q = q
      status Active q = active
      status Deprecated q = deprecated

      go : (h : Option Locator) → HeldBy (Fails test) h → found_as test (status_of h) ≡ false
      go None q = refl
      go (Some l) q = status l.status q

module _ (P : Check → Type 0) where
  -- a status without a check carries none
  checkless : (s : Status) → is_unverified s ≡ false → CarriedBy P s
  checkless (Unverified k) p = apart p
  checkless Active p = tt
  checkless Deprecated p = tt

  -- a change that keeps a status or takes its check away
  pub settled_carries : (change : Locator → Locator) → Settles change → (s : Slot) → Carries P s → Carries P (on_locator change s)
  settled_carries change settles s p = go s.holding p
    where
      kept : (l : Locator) → ((change l).status ≡ l.status) ⊎ (is_unverified (change l).status ≡ false) → CarriedBy P l.status → CarriedBy P (change l).status
      kept l (inl e) q = rw e q
      kept l (inr e) q = checkless (change l).status e

      go : (h : Option Locator) → HeldBy P h → HeldBy P (on_held change h)
      go None q = tt
      go (Some l) q = kept l (settles.status l) q

  -- what implies it
  pub carries_imply : (Q : Check → Type 0) → ((k : Check) → P k → Q k) → (s : Slot) → Carries P s → Carries Q s
  carries_imply Q h s p = go s.holding p
    where
      status : (t : Status) → CarriedBy P t → CarriedBy Q t
      status (Unverified k) q = h k q
      status Active q = tt
      status Deprecated q = tt

      go : (g : Option Locator) → HeldBy P g → HeldBy Q g
      go None q = tt
      go (Some l) q = status l.status q

  -- after expiry no check is left that is given up
  pub expired_carries : (time : ℕ) (s : Slot) → Carries P s → Carries (λ (k : Check). P k × (is_given_up k.issued time ≡ false)) (expire_slot time s)
  expired_carries time s p = go s.holding p
    where
      status : (t : Status) → given_up time t ≡ false → CarriedBy P t → CarriedBy (λ (k : Check). P k × (is_given_up k.issued time ≡ false)) t
      status (Unverified k) e q = (q, e)
      status Active e q = tt
      status Deprecated e q = tt

      held : (l : Locator) (over : Bool) → is_over time l ≡ over → CarriedBy P l.status →
          CarriedBy (λ (k : Check). P k × (is_given_up k.issued time ≡ false)) (cond over (with_status l Deprecated) l).status
      held l true e q = tt
      held l false e q = status l.status (or_false_right (leb l.expiry time) (given_up time l.status) e) q

      go : (h : Option Locator) → HeldBy P h → HeldBy (λ (k : Check). P k × (is_given_up k.issued time ≡ false)) (expire_held time h)
      go None q = tt
      go (Some l) q = held l (is_over time l) refl q

  -- a resend changes the count alone
  pub resent_carries : (time : ℕ) → ((k : Check) → P k → P (resent time k)) → (s : Slot) → Carries P s → Carries P (resend_slot time s)
  resent_carries time again s p = go s.holding p
    where
      check : (k : Check) (b : Bool) → P k → CarriedBy P (cond b (Unverified (resent time k)) (Unverified k))
      check k true q = again k q
      check k false q = q

      status : (t : Status) → CarriedBy P t → CarriedBy P (resend_status time t)
      status (Unverified k) q = check k (is_due k.issued k.resends time) q
      status Active q = tt
      status Deprecated q = tt

      go : (h : Option Locator) → HeldBy P h → HeldBy P (resend_slot time (record { holding = h })).holding
      go None q = tt
      go (Some l) q = status l.status q
