-- Rules over all the slots.
use Rattle.std.specs.Prelude.{ℕ, Bool, false, ◌||◌, List, [], ◌∷◌, map}
use Rattle.std.specs.List.{list_any}
use Rattle.slot.specs.Found.{is_nonce, held_as}
use Rattle.slot.specs.Clashes.{clash}
use Rattle.slot.specs.Checks.{bad_check, resend_slot}
use Rattle.slot.specs.Expiry.{expire_slot}
use Rattle.slot.specs.declared.Slot.{Slot}

-- "an address held twice, or two equal outstanding nonces": a slot clashes with one after it
abbrev pub clashing : List Slot → Bool
clashing [] = false
clashing (s ∷ ss) = list_any (clash s) ss || clashing ss

-- "an issue time after the stored time or a count over 4": of a check in some slot
abbrev pub bad_checks : (time : ℕ) → List Slot → Bool
bad_checks time ss = list_any (held_as (bad_check time)) ss

-- "Locators with time at or past expiry turn DEPRECATED.", and those whose check is given up
abbrev pub expire_all : (time : ℕ) → List Slot → List Slot
expire_all time slots = map (expire_slot time) slots

-- the slots after the resends of a tick: "the count becomes that number"
abbrev pub resend_all : (time : ℕ) → List Slot → List Slot
resend_all time slots = map (resend_slot time) slots

-- the nonce is outstanding: a locator that is held is UNVERIFIED, and its check has the nonce
abbrev pub is_outstanding : List Slot → (nonce : ℕ) → Bool
is_outstanding ss nonce = list_any (held_as (is_nonce nonce)) ss
