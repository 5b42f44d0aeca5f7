-- The lines of an association's state.
use Rattle.std.specs.Prelude.{ℕ, suc, List, [], ◌∷◌, ◌++◌, None, Option, Some}
use Rattle.address.specs.declared.Address.{Address}
use Rattle.slot.specs.declared.Check.{Check}
use Rattle.slot.specs.declared.Status.{Status}
use Rattle.slot.specs.declared.Status.TheVariants.{Unverified, Active, Deprecated}
use Rattle.slot.specs.declared.Locator.{Locator}
use Rattle.slot.specs.declared.Slot.{Slot}
use Rattle.association.specs.declared.Association.{Association}
use Rattle.lines.specs.Words.{word, field, hex_number}

-- an address: 32 hex digits
unfoldable pub address_text : Address → List (List ℕ)
address_text a = hex_number a.high ++ hex_number a.low

-- a check: its nonce, its Update ID, its issue time and its count of resends
unfoldable pub check_text : Check → List (List ℕ)
check_text k = hex_number k.nonce ++ (field " " k.id ++ (field " issued " k.issued ++ field " resends " k.resends))

-- a status, the end of a locator's line: UNVERIFIED with its check
unfoldable pub status_text : Status → List (List ℕ)
status_text Active = word " active\n"
status_text Deprecated = word " deprecated\n"
status_text (Unverified check) = word " unverified " ++ (check_text check ++ word "\n")

-- the line of the locator in slot n
unfoldable pub locator_text : ℕ → Locator → List (List ℕ)
locator_text n l =
    field "  slot " n
    ++ (word " " ++ (address_text l.address ++ (field " traffic " l.traffic ++ (field " expiry " l.expiry ++ status_text l.status))))

-- an empty slot has no line
abbrev pub holding_text : ℕ → Option Locator → List (List ℕ)
holding_text n None = []
holding_text n (Some l) = locator_text n l

-- the line of slot n
unfoldable pub slot_text : ℕ → Slot → List (List ℕ)
slot_text n slot = holding_text n slot.holding

-- the lines of slots, from slot n on
unfoldable pub slots_text : ℕ → List Slot → List (List ℕ)
slots_text n [] = []
slots_text n (slot ∷ slots) = slot_text n slot ++ slots_text (suc n) slots

-- the highest Update ID of the peer, or that none was seen
unfoldable pub peer_text : Option ℕ → List (List ℕ)
peer_text None = word " peer -"
peer_text (Some id) = field " peer " id

-- the preferred slot, or that there is none
unfoldable pub preference_text : Option ℕ → List (List ℕ)
preference_text None = word " preferred -"
preference_text (Some n) = field " preferred " n

-- the SPIs, the clock and the credit
unfoldable pub numbers_text : Association → List (List ℕ)
numbers_text a =
    field "  out " a.outbound
    ++ (field " in " a.inbound ++ (field " time " a.time ++ (field " aged " a.aged ++ field " credit " a.credit)))

-- the line of what an association holds besides its slots
unfoldable pub head_text : Association → List (List ℕ)
head_text a = numbers_text a ++ (peer_text a.peer ++ (field " own " a.next ++ (preference_text a.preferred ++ word "\n")))

-- all lines of a state
unfoldable pub state_text : Association → List (List ℕ)
state_text a = head_text a ++ slots_text 0 a.slots
