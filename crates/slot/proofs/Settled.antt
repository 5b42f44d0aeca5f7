-- A change of locators that keeps the address and keeps the status or takes its check away: slots that do not clash still do not, and no nonce
-- becomes outstanding. Assumes nothing.
use mathlib.Core.Path.{◌≡◌, refl}
use mathlib.Core.Bool.{false}
use mathlib.Core.Logic.{◌⊎◌, inl, inr}
use Prim.Native.Nat.{ℕ}
use Rattle.boolean.proofs.Laws.{eqb_turned, or_false_left, or_false_right}
use Rattle.address.specs.Rules.{same_address}
use Rattle.address.proofs.Equal.{same_turned}
use Rattle.slot.specs.declared.Status.{Status}
use Rattle.slot.specs.declared.Status.TheVariants.{Unverified, Active, Deprecated}
use Rattle.slot.specs.declared.Locator.{Locator}
use Rattle.slot.specs.declared.Slot.{Slot}
use Rattle.slot.specs.Found.{on_held, on_locator, is_unverified, is_nonce, held_as}
use Rattle.slot.specs.Clashes.{same_nonce, clash_held, clash}
use Rattle.std.specs.Prelude.{None, Option, Some}

pub record Settles (change : Locator → Locator) : Type 0 where
  pub address : (l : Locator) → (change l).address ≡ l.address
  pub status : (l : Locator) → ((change l).status ≡ l.status) ⊎ (is_unverified (change l).status ≡ false)

-- two slots do not clash
abbrev pub Clear : Slot → Slot → Type 0
Clear x y = clash x y ≡ false

-- a nonce is not outstanding in a slot
abbrev pub Lacks : (nonce : ℕ) → Slot → Type 0
Lacks nonce s = held_as (is_nonce nonce) s ≡ false

-- a status without a check shares no nonce
checkless_left : (s t : Status) → is_unverified s ≡ false → same_nonce s t ≡ false
checkless_left (Unverified k) t p = cc
checkless_left Active t p = refl
checkless_left Deprecated t p = refl

-- what two statuses and two slots share they share either way round
nonce_turned : (s t : Status) → same_nonce s t ≡ false → same_nonce t s ≡ false
nonce_turned (Unverified k) (Unverified l) p = eqb_turned k.nonce l.nonce p
nonce_turned (Unverified k) Active p = refl
nonce_turned (Unverified k) Deprecated p = refl
nonce_turned Active (Unverified l) p = refl
nonce_turned Active Active p = refl
nonce_turned Active Deprecated p = refl
nonce_turned Deprecated (Unverified l) p = refl
nonce_turned Deprecated Active p = refl
nonce_turned Deprecated Deprecated p = refl

pub clear_turned : (x y : Slot) → Clear x y → Clear y x
unfolding clash
clear_turned x y p = go x.holding y.holding p
  where
    go : (h k : Option Locator) → clash_held h k ≡ false → clash_held k h ≡ false
    go None None p = refl
    go None (Some m) p = refl
    go (Some l) None p = refl
    go (Some l) (Some m) p =
        rw (
          same_turned l.address m.address false (or_false_left (same_address l.address m.address) (same_nonce l.status m.status) p),
          nonce_turned l.status m.status (or_false_right (same_address l.address m.address) (same_nonce l.status m.status) p),
        )

checkless_nonce : (n : ℕ) (s : Status) → is_unverified s ≡ false → is_nonce n s ≡ false
checkless_nonce n (Unverified k) p = cc
checkless_nonce n Active p = refl
checkless_nonce n Deprecated p = refl

module _ (change : Locator → Locator) (settles : Settles change) where
  nonces_apart : (l m : Locator) → same_nonce l.status m.status ≡ false → same_nonce (change l).status (change m).status ≡ false
  nonces_apart l m p = go (settles.status l) (settles.status m)
    where
      go : ((change l).status ≡ l.status) ⊎ (is_unverified (change l).status ≡ false) → ((change m).status ≡ m.status) ⊎ (is_unverified (change m).status ≡ false) →
          same_nonce (change l).status (change m).status ≡ false
      go (inl e) (inl f) = rw (e, f) p
      go (inl e) (inr f) = nonce_turned (change m).status (change l).status (checkless_left (change m).status (change l).status f)
      go (inr e) f = checkless_left (change l).status (change m).status e

  held_apart : (h k : Option Locator) → clash_held h k ≡ false → clash_held (on_held change h) (on_held change k) ≡ false
  held_apart None k p = refl
  held_apart (Some l) None p = refl
  held_apart (Some l) (Some m) p =
      rw (
        settles.address l,
        settles.address m,
        or_false_left (same_address l.address m.address) (same_nonce l.status m.status) p,
        nonces_apart l m (or_false_right (same_address l.address m.address) (same_nonce l.status m.status) p),
      )

  pub settled_clear : (x y : Slot) → Clear x y → Clear (on_locator change x) (on_locator change y)
  unfolding clash
  settled_clear x y p = held_apart x.holding y.holding p

  nonce_lost : (n : ℕ) (l : Locator) → is_nonce n l.status ≡ false → ((change l).status ≡ l.status) ⊎ (is_unverified (change l).status ≡ false) →
      is_nonce n (change l).status ≡ false
  nonce_lost n l p (inl e) = rw e p
  nonce_lost n l p (inr e) = checkless_nonce n (change l).status e

  pub settled_lacks : (n : ℕ) (s : Slot) → Lacks n s → Lacks n (on_locator change s)
  settled_lacks n s p = go s.holding p
    where
      go : (h : Option Locator) → Lacks n (record { holding = h }) → Lacks n (record { holding = on_held change h })
      go None p = refl
      go (Some l) p = nonce_lost n l p (settles.status l)
