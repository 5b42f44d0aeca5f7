-- What slots hold: "A slot is empty or holds 16 address bytes, a traffic type, an expiry time and a status."
use Rattle.std.specs.Prelude.{ℕ, Bool, true, false, cond, List, [], ◌∷◌, eqb, get_or, None, Option, Some}
use Rattle.address.specs.declared.Address.{Address}
use Rattle.address.specs.Rules.{same_address}
use Rattle.slot.specs.declared.Status.{Status}
use Rattle.slot.specs.declared.Status.TheVariants.{Unverified, Active, Deprecated}
use Rattle.slot.specs.declared.Locator.{Locator}
use Rattle.slot.specs.declared.Slot.{Slot}

-- "and 8 slots"
abbrev pub slot_count : ℕ
slot_count = 8

-- a slot that holds nothing
abbrev pub empty_slot : Slot
empty_slot = record { holding = None }

-- a slot that holds a locator
abbrev pub slot_of : Locator → Slot
slot_of l = record { holding = Some l }

-- the locator with another status
abbrev pub with_status : Locator → Status → Locator
with_status l s = record { address = l.address; traffic = l.traffic; expiry = l.expiry; status = s }

-- what is held, changed so; nothing stays nothing
abbrev pub on_held : (Locator → Locator) → Option Locator → Option Locator
on_held change None = None
on_held change (Some l) = Some (change l)

-- the slot with its locator changed so; an empty slot stays empty
abbrev pub on_locator : (Locator → Locator) → Slot → Slot
on_locator change s = record { holding = on_held change s.holding }

-- the slot holds the address
abbrev pub holds_held : Address → Option Locator → Bool
holds_held x None = false
holds_held x (Some l) = same_address x l.address

-- the same, of a slot
abbrev pub holds : Address → Slot → Bool
holds x s = holds_held x s.holding

-- the status of an address in a slot, if the slot holds it
abbrev pub status_held : Address → Option Locator → Option Status
status_held x None = None
status_held x (Some l) = cond (same_address x l.address) (Some l.status) None

-- the first answer that there is
abbrev pub or_else : {A : Type 0} → Option A → Option A → Option A
or_else None o = o
or_else (Some a) o = Some a

-- "Finds and leaves: the status of the slot that holds the address"; none where the address is not held
unfoldable pub status_in : Address → List Slot → Option Status
status_in x [] = None
status_in x (s ∷ ss) = or_else (status_held x s.holding) (status_in x ss)

-- slot n; an empty one where there is none
abbrev pub slot_at : ℕ → List Slot → Slot
slot_at n ss = get_or ss n empty_slot

-- the status of what is held, if anything is
abbrev pub status_of : Option Locator → Option Status
status_of None = None
status_of (Some l) = Some l.status

-- the status that slot n has, if it holds anything
abbrev pub status_at : ℕ → List Slot → Option Status
status_at n ss = status_of (slot_at n ss).holding

-- the status is ACTIVE
abbrev pub is_active : Status → Bool
is_active (Unverified k) = false
is_active Active = true
is_active Deprecated = false

-- the status is UNVERIFIED
abbrev pub is_unverified : Status → Bool
is_unverified (Unverified k) = true
is_unverified Active = false
is_unverified Deprecated = false

-- the status is DEPRECATED
abbrev pub is_deprecated : Status → Bool
is_deprecated (Unverified k) = false
is_deprecated Active = false
is_deprecated Deprecated = true

-- the status is UNVERIFIED and its check has this nonce: the nonce is outstanding
abbrev pub is_nonce : (nonce : ℕ) → Status → Bool
is_nonce nonce (Unverified k) = eqb nonce k.nonce
is_nonce nonce Active = false
is_nonce nonce Deprecated = false

-- there is a status, and it passes the test
abbrev pub found_as : (Status → Bool) → Option Status → Bool
found_as test None = false
found_as test (Some s) = test s

-- the slot holds a locator whose status passes the test
abbrev pub held_as : (Status → Bool) → Slot → Bool
held_as test s = found_as test (status_of s.holding)
