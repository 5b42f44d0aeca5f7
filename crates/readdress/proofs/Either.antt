-- Steps 3 and 4 come to the same in either order: one changes what is listed, the other what is not. Assumes nothing.
use Prim.Native.Nat.{ℕ}
use mathlib.Core.Path.{◌≡◌, refl, ap}
use mathlib.Core.Bool.{Bool, true, false}
use mathlib.Core.List.{List, [], ◌∷◌, map}
use Rattle.boolean.proofs.Laws.{or_false_left, or_false_right}
use Rattle.address.specs.declared.Address.{Address}
use Rattle.address.specs.Rules.{same_address}
use Rattle.locator.specs.declared.ListedLocator.{ListedLocator}
use Rattle.slot.specs.declared.Locator.{Locator}
use Rattle.slot.specs.declared.Slot.{Slot}
use Rattle.slot.specs.Found.{on_held, on_locator}
use Rattle.readdress.specs.Steps.{entry_for, renew, renew_all, is_listed, retire, retire_all}
use Rattle.readdress.proofs.Settled.{renewed_address}
use Rattle.std.specs.Prelude.{None, Option, Some}

-- a set that does not list the address has no entry for it
none_for : (x : Address) (listed : List ListedLocator) → is_listed x listed ≡ false → entry_for x listed ≡ None
none_for x [] h = refl
none_for x (e ∷ es) h =
    let here = or_false_left (same_address x e.address) (is_listed x es) h in
    let later = or_false_right (same_address x e.address) (is_listed x es) h in
    rw here (none_for x es later)

module _ (time : ℕ) (listed : List ListedLocator) where
  locator_either : (l : Locator) → retire listed (renew time listed l) ≡ renew time listed (retire listed l)
  locator_either l = go (is_listed l.address listed) refl
    where
      go : (b : Bool) → is_listed l.address listed ≡ b → retire listed (renew time listed l) ≡ renew time listed (retire listed l)
      go true h = rw (renewed_address time (entry_for l.address listed) l, h)
      go false h = rw (renewed_address time (entry_for l.address listed) l, h, none_for l.address listed h)

  pub either_order : (ss : List Slot) → retire_all listed (renew_all time listed ss) ≡ renew_all time listed (retire_all listed ss)
  unfolding renew_all retire_all
  either_order [] = refl
  either_order (s ∷ ss) = go s.holding (either_order ss)
    where
      go : (h : Option Locator) → map (on_locator (retire listed)) (map (on_locator (renew time listed)) ss) ≡ map (on_locator (renew time listed)) (map (on_locator (retire listed)) ss) →
          record { holding = on_held (retire listed) (on_held (renew time listed) h) } ∷ map (on_locator (retire listed)) (map (on_locator (renew time listed)) ss)
          ≡ record { holding = on_held (renew time listed) (on_held (retire listed) h) } ∷ map (on_locator (renew time listed)) (map (on_locator (retire listed)) ss)
      go None e = ap (λ (r : List Slot). record { holding = None } ∷ r) e
      go (Some l) e = rw (locator_either l, e)
