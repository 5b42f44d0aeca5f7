-- Worked examples, computed from the definitions: refusals 8 and 10 at their edges, and each step on three slots.
use Rattle.std.specs.Prelude.{ℕ, ◌≡◌, refl, Bool, true, false, List, [], ◌∷◌, map, replicate, None, Option, Some}
use Rattle.packet.specs.declared.EchoResponse.TheVariants.{Absent, Nonce, OtherLength}
use Rattle.locator.specs.declared.ListedLocator.{ListedLocator}
use Rattle.slot.specs.declared.Status.{Status}
use Rattle.slot.specs.declared.Status.TheVariants.{Unverified, Active, Deprecated}
use Rattle.slot.specs.declared.Slot.{Slot}
use Rattle.slot.specs.Found.{empty_slot, slot_of}
use Rattle.readdress.specs.declared.Placement.{Placement}
use Rattle.readdress.specs.Echoes.{answers, verify_all, refusal8}
use Rattle.readdress.specs.Steps.{rebind, renew_all, retire_all, is_free, place_all}
use Rattle.readdress.specs.Checks.{awaits, check_count, checked, check_for, nonce_taken, refusal10}
use Rattle.readdress.specs.Moves.{settled, placed, new_checks, new_slots, new_preference}

-- a slot that holds address n
abbrev holding : (n traffic expiry : ℕ) → Status → Slot
holding n traffic expiry s = slot_of (record { address = record { high = 1; low = n }; traffic = traffic; expiry = expiry; status = s })

-- UNVERIFIED, with a check that was issued at 90 and sent again twice
abbrev waiting : (nonce id : ℕ) → Status
waiting nonce id = Unverified (record { nonce = nonce; id = id; issued = 90; resends = 2 })

-- UNVERIFIED, with a new check of time 100
abbrev issued : (nonce id : ℕ) → Status
issued nonce id = Unverified (record { nonce = nonce; id = id; issued = 100; resends = 0 })

-- slots 0 to 2 hold addresses 1 to 3 with these statuses
abbrev three : (first second third : Status) → List Slot
three first second third = holding 1 0 130 first ∷ holding 2 0 130 second ∷ holding 3 0 130 third ∷ empty_slot ∷ empty_slot ∷ []

-- address 1 is ACTIVE, address 2 UNVERIFIED with nonce 9 outstanding, address 3 DEPRECATED
abbrev before : List Slot
before = three Active (waiting 9 2) Deprecated

-- an entry for address n, for data and 60 seconds
abbrev entry : (n : ℕ) → (preferred : Bool) → ListedLocator
entry n preferred = record { address = record { high = 1; low = n }; lifetime = 60; spi = 0; traffic = 2; kind = 0; preferred = preferred }

-- refusal 8: no echo response, the nonce outstanding, another nonce, the Update ID of its check, and an echo response of another length
refusal_8 : map (λ e. refusal8 e before) (Absent ∷ Nonce 9 ∷ Nonce 8 ∷ Nonce 10 ∷ Nonce 2 ∷ OtherLength ∷ [])
    ≡ false ∷ false ∷ true ∷ true ∷ true ∷ true ∷ []
refusal_8 = refl

-- refusal 10: distinct, rising and falling, also one that is an Update ID; two equal, neighbours and far apart; one that is outstanding, the last
-- and the first
refusal_10 : map (λ ns. refusal10 ns before)
    ((5 ∷ 6 ∷ 7 ∷ []) ∷ (7 ∷ 6 ∷ 2 ∷ []) ∷ (5 ∷ 5 ∷ 7 ∷ []) ∷ (5 ∷ 6 ∷ 5 ∷ []) ∷ (5 ∷ 7 ∷ 7 ∷ []) ∷ (5 ∷ 6 ∷ 9 ∷ []) ∷ (9 ∷ 5 ∷ 6 ∷ []) ∷ [])
    ≡ false ∷ false ∷ true ∷ true ∷ true ∷ true ∷ true ∷ []
refusal_10 = refl

-- an echo response answers a status that carries its nonce, and no other
answered : (map (answers (Nonce 9)) (waiting 9 2 ∷ waiting 8 9 ∷ waiting 10 2 ∷ Active ∷ Deprecated ∷ []) ≡ true ∷ replicate 4 false)
    × (map (λ e. answers e (waiting 9 2)) (Absent ∷ OtherLength ∷ []) ≡ false ∷ false ∷ [])
answered = (refl, refl)

-- step 1: the nonce turns its slot ACTIVE, and no other echo response turns any
step_1 : (verify_all (Nonce 9) before ≡ three Active Active Deprecated)
    × (map (λ e. verify_all e before) (Absent ∷ Nonce 2 ∷ Nonce 8 ∷ Nonce 10 ∷ OtherLength ∷ []) ≡ replicate 5 before)
unfolding verify_all
step_1 = (refl, refl)

-- step 2: a new SPI leaves all DEPRECATED, and the same SPI leaves them as they are
step_2 : (rebind true before ≡ three Deprecated Deprecated Deprecated) × (rebind false before ≡ before)
unfolding rebind
step_2 = (refl, refl)

-- steps 3 and 4, of a set of addresses 2 and 3 at time 100: those two take traffic type and expiry, and address 1 turns DEPRECATED
steps_3_4 : (renew_all 100 (entry 2 false ∷ entry 3 false ∷ []) before
    ≡ holding 1 0 130 Active ∷ holding 2 2 160 (waiting 9 2) ∷ holding 3 2 160 Deprecated ∷ empty_slot ∷ empty_slot ∷ [])
    × (retire_all (entry 2 false ∷ entry 3 false ∷ []) before ≡ three Deprecated (waiting 9 2) Deprecated)
unfolding renew_all retire_all
steps_3_4 = (refl, refl)

-- a set of addresses 5, 1, 4 and 3
abbrev listed : List ListedLocator
listed = entry 5 false ∷ entry 1 false ∷ entry 4 false ∷ entry 3 true ∷ []

-- the placement after step 5, from a preference
abbrev after : Option ℕ → Placement
after p = placed 100 false Absent listed p before

-- step 5: address 5 takes slot 1, whose address is not listed, and not slot 2, whose address a later entry lists; address 4 takes the empty slot 3. A
-- preference for either is dropped, and others stay
step_5 : ((after (Some 1)).slots
    ≡ holding 1 2 160 Active ∷ holding 5 2 160 Deprecated ∷ holding 3 2 160 Deprecated ∷ holding 4 2 160 Deprecated ∷ empty_slot ∷ [])
    × (map (λ p. (after p).preferred) (None ∷ Some 0 ∷ Some 1 ∷ Some 2 ∷ Some 3 ∷ [])
    ≡ None ∷ Some 0 ∷ None ∷ Some 2 ∷ None ∷ [])
unfolding placed settled verify_all rebind renew_all retire_all
step_5 = (refl, refl)

-- which slots make room: an empty one and a DEPRECATED one that is not listed; which get a check: a DEPRECATED one that is listed. Of addresses 1
-- to 3, and an empty slot
rooms : (map (is_free (entry 1 false ∷ entry 2 false ∷ [])) before ≡ false ∷ false ∷ true ∷ true ∷ true ∷ [])
    × (map (is_free (entry 3 false ∷ [])) before ≡ false ∷ false ∷ false ∷ true ∷ true ∷ [])
    × (map (awaits (entry 1 false ∷ entry 2 false ∷ [])) before ≡ replicate 5 false)
    × (map (awaits (entry 1 false ∷ entry 2 false ∷ entry 3 false ∷ [])) before ≡ false ∷ false ∷ true ∷ false ∷ false ∷ [])
rooms = (refl, refl, refl, refl)

-- where no slot makes room, nothing changes
full : place_all 100 (entry 5 false ∷ []) (entry 5 false ∷ []) (record { slots = holding 1 0 130 Active ∷ []; preferred = Some 0 })
    ≡ record { slots = holding 1 0 130 Active ∷ []; preferred = Some 0 }
full = refl

-- step 6: the locator with P, address 3, is in slot 2; without P the preference stays
step_6 : (new_preference listed (after (Some 0)) ≡ Some 2)
    × (map (λ p. new_preference (entry 1 false ∷ []) (after p)) (None ∷ Some 0 ∷ []) ≡ None ∷ Some 0 ∷ [])
unfolding placed settled verify_all rebind renew_all retire_all
step_6 = (refl, refl)

-- the new checks, in slot order: addresses 5, 3 and 4
checks : (new_checks listed (after None) ≡ 3)
    × (new_slots listed 100 3 (11 ∷ 12 ∷ 13 ∷ 14 ∷ []) (after None)
    ≡ holding 1 2 160 Active ∷ holding 5 2 160 (issued 11 3) ∷ holding 3 2 160 (issued 12 4) ∷ holding 4 2 160 (issued 13 5) ∷ empty_slot ∷ [])
unfolding placed settled verify_all rebind renew_all retire_all check_count checked
checks = (refl, refl)

-- the nonce that each address takes: 1, which keeps its status, 5, 3 and 4 in slot order, and 2, which is no longer held. A nonce that is not
-- offered counts 0
taken : (map (λ (n : ℕ). nonce_taken (record { high = 1; low = n }) listed (11 ∷ 12 ∷ 13 ∷ 14 ∷ []) (after None).slots) (1 ∷ 5 ∷ 3 ∷ 4 ∷ 2 ∷ [])
    ≡ None ∷ Some 11 ∷ Some 12 ∷ Some 13 ∷ None ∷ [])
    × (nonce_taken (record { high = 1; low = 5 }) listed [] (after None).slots ≡ Some 0)
    × (checked (entry 3 false ∷ []) 100 7 [] 0 (holding 3 0 130 Deprecated ∷ []) ≡ holding 3 0 130 (issued 0 7) ∷ [])
unfolding placed settled verify_all rebind renew_all retire_all check_for checked
taken = (refl, refl, refl)
