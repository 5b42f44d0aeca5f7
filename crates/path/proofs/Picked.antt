-- What is picked fits: a slot that is picked holds a carrier with the status that the path names. Assumes nothing.
use mathlib.Core.Path.{◌≡◌, refl, ◌∙◌, ap}
use mathlib.Core.Bool.{Bool, true, false, cond}
use mathlib.Core.List.{List}
use Prim.Native.Nat.{ℕ}
use Rattle.boolean.proofs.Laws.{and_true_right}
use Rattle.slot.specs.declared.Status.{Status}
use Rattle.slot.specs.declared.Slot.{Slot}
use Rattle.slot.specs.Found.{slot_at, status_of, status_at, is_active, is_unverified, found_as}
use Rattle.path.specs.declared.Path.{Path}
use Rattle.path.specs.declared.Path.TheVariants.{ToActive, ToUnverified, NoCarrier}
use Rattle.path.proofs.Lowest.{number_in, lowest_fit}
use Rattle.path.specs.Choices.{carries, carrier_held, active_carrier, unverified_carrier, lowest, preferred_if, or_else, choice, path, path_of}
use Rattle.std.specs.Prelude.{None, Option, Some}
use Rattle.slot.specs.declared.Locator.{Locator}

preferred_fits : (fits : Slot → Bool) (p : Option ℕ) (ss : List Slot) (i : ℕ) → preferred_if fits p ss ≡ Some i → fits (slot_at i ss) ≡ true
preferred_fits fits None ss i e = cc
preferred_fits fits (Some n) ss i e = go (fits (slot_at n ss)) refl e
  where
    go : (b : Bool) → fits (slot_at n ss) ≡ b → cond b (Some n) None ≡ Some i → fits (slot_at i ss) ≡ true
    go true q e = let z : n ≡ i = ap number_in e in rw (← z) q
    go false q e = cc

choice_fits : (fits : Slot → Bool) (p : Option ℕ) (ss : List Slot) (i : ℕ) → choice fits p ss ≡ Some i → fits (slot_at i ss) ≡ true
choice_fits fits p ss i e = go (preferred_if fits p ss) refl e
  where
    go : (f : Option ℕ) → preferred_if fits p ss ≡ f → or_else f (lowest fits 0 ss) ≡ Some i → fits (slot_at i ss) ≡ true
    go None q e = lowest_fit fits ss i e
    go (Some n) q e = preferred_fits fits p ss i (q ∙ e)

-- a carrier that passes a test has a status that does
carrier_status : (test : Status → Bool) (h : Option Locator) → carrier_held test h ≡ true → found_as test (status_of h) ≡ true
carrier_status test None e = e
carrier_status test (Some l) e = and_true_right (carries l.traffic) (test l.status) e

abbrev slot_in : Path → ℕ
slot_in (ToActive n) = n
slot_in (ToUnverified n) = n
slot_in NoCarrier = 0

-- the path to ACTIVE goes to a slot that is ACTIVE
pub picked_active : (p : Option ℕ) (ss : List Slot) (i : ℕ) → path_of p ss ≡ ToActive i → found_as is_active (status_at i ss) ≡ true
unfolding path_of
picked_active p ss i e = carrier_status is_active (slot_at i ss).holding (choice_fits active_carrier p ss i (go (choice active_carrier p ss) (choice unverified_carrier p ss) e))
  where
    go : (a u : Option ℕ) → path a u ≡ ToActive i → a ≡ Some i
    go (Some n) u e = ap Some (ap slot_in e)
    go None (Some n) e = cc
    go None None e = cc

-- the path to UNVERIFIED goes to a slot that is UNVERIFIED
pub picked_unverified : (p : Option ℕ) (ss : List Slot) (i : ℕ) → path_of p ss ≡ ToUnverified i → found_as is_unverified (status_at i ss) ≡ true
unfolding path_of
picked_unverified p ss i e =
    carrier_status is_unverified (slot_at i ss).holding (choice_fits unverified_carrier p ss i (go (choice active_carrier p ss) (choice unverified_carrier p ss) e))
  where
    go : (a u : Option ℕ) → path a u ≡ ToUnverified i → u ≡ Some i
    go (Some n) u e = cc
    go None (Some n) e = ap Some (ap slot_in e)
    go None None e = cc
