-- A change of the locator that a slot holds, whatever the change. Assumes nothing.
use mathlib.Core.Path.{◌≡◌, sym, ap, ◌∙◌}
use Rattle.slot.specs.declared.Locator.{Locator}
use Rattle.slot.specs.declared.Slot.{Slot}
use Rattle.slot.specs.Found.{slot_of, on_held, on_locator}
use Rattle.std.specs.Prelude.{None, Option, Some}

-- a slot is its holding
abbrev slot_with : Option Locator → Slot
slot_with h = record { holding = h }

pub on_empty : (change : Locator → Locator) (s : Slot) → s.holding ≡ None → s ≡ on_locator change s
on_empty change s p = ap slot_with (simp p)

pub on_held_lem : (change : Locator → Locator) (s : Slot) (l m : Locator) → s.holding ≡ Some l → m ≡ change l → slot_of m ≡ on_locator change s
on_held_lem change s l m p q = simp (p, q)

pub on_kept : (change : Locator → Locator) (s : Slot) (l : Locator) → s.holding ≡ Some l → l ≡ change l → s ≡ on_locator change s
on_kept change s l p q = ap slot_with (p ∙ ap Some q ∙ ap (on_held change) (sym p))
