-- Worked examples, computed from the definitions: what a slot holds, which slots clash, and expiry.
use Rattle.std.specs.Prelude.{ℕ, ◌≡◌, refl, true, false, List, [], ◌∷◌, map, replicate, None, Some}
use Rattle.address.specs.declared.Address.{Address}
use Rattle.slot.specs.declared.Status.{Status}
use Rattle.slot.specs.declared.Status.TheVariants.{Unverified, Active, Deprecated}
use Rattle.slot.specs.declared.Locator.{Locator}
use Rattle.slot.specs.declared.Slot.{Slot}
use Rattle.slot.specs.Found.{slot_count, empty_slot, slot_of, with_status, on_locator, holds, or_else, status_in, slot_at, status_at, is_active, is_unverified, is_deprecated, is_nonce, found_as, held_as}
use Rattle.slot.specs.Clashes.{clash}
use Rattle.slot.specs.Checks.{given_up, bad_check, resend_status, resend_slot}
use Rattle.slot.specs.Expiry.{expiry_at, expire_slot}

-- the address 2001:db8::n
abbrev address : (n : ℕ) → Address
address n = record { high = 0x20010db800000000; low = n }

-- a locator of it for data, with expiry 160
abbrev locator : (n : ℕ) → Status → Locator
locator n s = record { address = address n; traffic = 2; expiry = 160; status = s }

-- a slot that holds it
abbrev held : (n : ℕ) → Status → Slot
held n s = record { holding = Some (locator n s) }

abbrev empty : Slot
empty = record { holding = None }

-- UNVERIFIED, with a check of these numbers
abbrev checked : (nonce id issued resends : ℕ) → Status
checked nonce id issued resends = Unverified (record { nonce = nonce; id = id; issued = issued; resends = resends })

-- the same, issued at 150 and sent again three times
abbrev waiting : (nonce id : ℕ) → Status
waiting nonce id = checked nonce id 150 3

-- "and 8 slots": a slot is empty or holds a locator, and another status changes nothing else
forms : (slot_count ≡ 8)
    × (empty_slot ≡ empty)
    × (slot_of (locator 1 Active) ≡ held 1 Active)
    × (with_status (locator 1 Active) (waiting 9 2) ≡ locator 1 (waiting 9 2))
forms = (refl, refl, refl, refl)

-- a change of a slot's locator; an empty slot stays empty
changes : map (on_locator (λ (l : Locator). with_status l Deprecated)) (held 1 Active ∷ empty ∷ []) ≡ held 1 Deprecated ∷ empty ∷ []
changes = refl

-- slots that hold addresses 1, 2, and 3
abbrev some_slots : List Slot
some_slots = empty ∷ held 1 (waiting 9 2) ∷ held 2 Active ∷ empty ∷ held 3 Deprecated ∷ []

-- whether a slot holds address 2, and "the status of the slot that holds the address": of addresses 1 to 4
finds : (map (holds (address 2)) some_slots ≡ false ∷ false ∷ true ∷ false ∷ false ∷ [])
    × (map (λ (n : ℕ). status_in (address n) some_slots) (1 ∷ 2 ∷ 3 ∷ 4 ∷ []) ≡ Some (waiting 9 2) ∷ Some Active ∷ Some Deprecated ∷ None ∷ [])
    × (status_in (address 1) [] ≡ None)
unfolding status_in
finds = (refl, refl, refl)

-- slot n and its status; past the last slot there is none
numbered : (map (λ (n : ℕ). slot_at n some_slots) (0 ∷ 2 ∷ 5 ∷ []) ≡ empty ∷ held 2 Active ∷ empty ∷ [])
    × (map (λ (n : ℕ). status_at n some_slots) (0 ∷ 1 ∷ 2 ∷ 5 ∷ []) ≡ None ∷ Some (waiting 9 2) ∷ Some Active ∷ None ∷ [])
numbered = (refl, refl)

-- the tests of a status: UNVERIFIED with nonce 9 and Update ID 2, ACTIVE, DEPRECATED
abbrev statuses : List Status
statuses = waiting 9 2 ∷ Active ∷ Deprecated ∷ []

tests : (map is_active statuses ≡ false ∷ true ∷ false ∷ [])
    × (map is_unverified statuses ≡ true ∷ false ∷ false ∷ [])
    × (map is_deprecated statuses ≡ false ∷ false ∷ true ∷ [])
    × (map (is_nonce 9) statuses ≡ true ∷ false ∷ false ∷ [])
    × (map (λ (nonce : ℕ). is_nonce nonce (waiting 9 2)) (2 ∷ 8 ∷ 10 ∷ []) ≡ false ∷ false ∷ false ∷ [])
    × (map (held_as is_active) some_slots ≡ false ∷ false ∷ true ∷ false ∷ false ∷ [])
    × (map (found_as is_active) (None ∷ Some Active ∷ Some Deprecated ∷ []) ≡ false ∷ true ∷ false ∷ [])
    × (map (or_else (Some Active)) (None ∷ Some Deprecated ∷ []) ≡ Some Active ∷ Some Active ∷ [])
    × (map (or_else {A = Status} None) (None ∷ Some Deprecated ∷ []) ≡ None ∷ Some Deprecated ∷ [])
tests = (refl, refl, refl, refl, refl, refl, refl, refl, refl)

-- "an address held twice": whatever the statuses; an empty slot clashes with none
addresses : (map (clash (held 1 Active)) (held 1 Active ∷ held 1 Deprecated ∷ held 1 (waiting 9 2) ∷ []) ≡ replicate 3 true)
    × (map (clash (held 1 Deprecated)) (held 2 Deprecated ∷ held 2 Active ∷ held 0 Active ∷ held 2 (waiting 9 2) ∷ empty ∷ []) ≡ replicate 5 false)
    × (map (clash empty) (held 1 Active ∷ empty ∷ []) ≡ false ∷ false ∷ [])
unfolding clash
addresses = (refl, refl, refl)

-- "two equal outstanding nonces": whatever their Update IDs; other nonces with the same Update ID do not clash, and only UNVERIFIED has a nonce
-- outstanding
nonces : (map (λ (s : Status). clash (held 1 (waiting 9 2)) (held 2 s)) (waiting 9 2 ∷ waiting 9 3 ∷ []) ≡ true ∷ true ∷ [])
    × (map (λ (s : Status). clash (held 1 (waiting 9 2)) (held 2 s)) (waiting 8 2 ∷ waiting 10 2 ∷ waiting 2 9 ∷ Active ∷ Deprecated ∷ [])
    ≡ replicate 5 false)
    × (map (λ (s : Status). clash (held 1 s) (held 2 (waiting 9 2))) (Active ∷ Deprecated ∷ []) ≡ false ∷ false ∷ [])
unfolding clash
nonces = (refl, refl, refl)

-- "expiry = stored time + lifetime"; "Locators with time at or past expiry turn DEPRECATED.": before, at and after 160
expiry : (expiry_at 100 60 ≡ 160)
    × (map (λ (time : ℕ). expire_slot time (held 1 Active)) (0 ∷ 159 ∷ 160 ∷ 161 ∷ [])
    ≡ held 1 Active ∷ held 1 Active ∷ held 1 Deprecated ∷ held 1 Deprecated ∷ [])
    × (map (expire_slot 160) (held 1 (waiting 9 2) ∷ held 1 Deprecated ∷ empty ∷ []) ≡ held 1 Deprecated ∷ held 1 Deprecated ∷ empty ∷ [])
    × (map (expire_slot 159) (held 1 (waiting 9 2) ∷ held 1 Deprecated ∷ empty ∷ []) ≡ held 1 (waiting 9 2) ∷ held 1 Deprecated ∷ empty ∷ [])
expiry = (refl, refl, refl, refl)

-- "At the first accepted tick 16 or more seconds after issue the locator turns DEPRECATED": issued at 140, with expiry 160; ACTIVE has no check, and expires
-- alone
ended : (map (λ (time : ℕ). expire_slot time (held 1 (checked 9 2 140 4))) (139 ∷ 140 ∷ 155 ∷ 156 ∷ 157 ∷ 160 ∷ [])
    ≡ held 1 (checked 9 2 140 4) ∷ held 1 (checked 9 2 140 4) ∷ held 1 (checked 9 2 140 4) ∷ replicate 3 (held 1 Deprecated))
    × (map (expire_slot 157) (held 1 Active ∷ held 1 Deprecated ∷ []) ≡ held 1 Active ∷ held 1 Deprecated ∷ [])
    × (map (given_up 157) (checked 9 2 140 4 ∷ checked 9 2 150 3 ∷ Active ∷ Deprecated ∷ []) ≡ true ∷ false ∷ false ∷ false ∷ [])
ended = (refl, refl, refl)

-- "an issue time after the stored time or a count over 4": of UNVERIFIED alone
bad : (map (bad_check 150) (checked 9 2 150 4 ∷ checked 9 2 151 0 ∷ checked 9 2 150 5 ∷ checked 151 151 0 0 ∷ Active ∷ Deprecated ∷ [])
    ≡ false ∷ true ∷ true ∷ false ∷ false ∷ false ∷ [])
    × (map (held_as (bad_check 150)) (held 1 (checked 9 2 151 0) ∷ held 1 Active ∷ empty ∷ []) ≡ true ∷ false ∷ false ∷ [])
bad = (refl, refl)

-- "each check whose count is below the number of moments reached": issued at 150, two moments are reached at 153; "the count becomes that number", and nothing
-- else changes
resends : (map (resend_status 153) (checked 9 2 150 0 ∷ checked 9 2 150 1 ∷ checked 9 2 150 2 ∷ checked 9 2 150 4 ∷ checked 0 0 152 0 ∷ Active ∷ Deprecated ∷ [])
    ≡ checked 9 2 150 2 ∷ checked 9 2 150 2 ∷ checked 9 2 150 2 ∷ checked 9 2 150 4 ∷ checked 0 0 152 1 ∷ Active ∷ Deprecated ∷ [])
    × (map (resend_slot 153) (held 1 (checked 9 2 150 0) ∷ held 2 Active ∷ empty ∷ []) ≡ held 1 (checked 9 2 150 2) ∷ held 2 Active ∷ empty ∷ [])
resends = (refl, refl)
