-- The expiry of a locator: "Locators with time at or past expiry turn DEPRECATED.", and order 4: so does one whose check is given up.
use Rattle.std.specs.Prelude.{ℕ, ◌+◌, Bool, cond, ◌||◌, leb, Option}
use Rattle.slot.specs.Found.{with_status, on_held, on_locator}
use Rattle.slot.specs.Checks.{given_up}
use Rattle.slot.specs.declared.Status.TheVariants.{Deprecated}
use Rattle.slot.specs.declared.Locator.{Locator}
use Rattle.slot.specs.declared.Slot.{Slot}

-- "expiry = stored time + lifetime": of a locator that is started or listed
abbrev pub expiry_at : (time lifetime : ℕ) → ℕ
expiry_at time lifetime = time + lifetime

-- a locator is over: "time at or past expiry", or, order 4, "16 or more seconds after issue" of its check
abbrev pub is_over : (time : ℕ) → Locator → Bool
is_over time l = leb l.expiry time || given_up time l.status

-- a locator at a time
abbrev pub expire_locator : (time : ℕ) → Locator → Locator
expire_locator time l = cond (is_over time l) (with_status l Deprecated) l

-- an empty slot stays empty
abbrev pub expire_held : (time : ℕ) → Option Locator → Option Locator
expire_held time h = on_held (expire_locator time) h

-- a slot at a time
abbrev pub expire_slot : (time : ℕ) → Slot → Slot
expire_slot time s = on_locator (expire_locator time) s
