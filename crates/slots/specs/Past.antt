-- Whether a slot's locator is over: cited by a private function alone.
use Rattle.std.specs.Prelude.{ℕ, Bool, false, None, Option, Some}
use Rattle.slot.specs.declared.Locator.{Locator}
use Rattle.slot.specs.declared.Slot.{Slot}
use Rattle.slot.specs.Expiry.{is_over}

-- of what a slot holds
abbrev pub past_held : (time : ℕ) → Option Locator → Bool
past_held time None = false
past_held time (Some l) = is_over time l

-- of a slot
abbrev pub past : (time : ℕ) → Slot → Bool
past time s = past_held time s.holding
