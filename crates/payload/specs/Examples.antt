-- Worked examples, computed from the definitions: refusals 0, 13, 14 and 15, and what is granted.
use Rattle.std.specs.Prelude.{ℕ, ◌≡◌, refl, [], ◌∷◌, map, replicate, Err, None, Ok, Some}
use Rattle.slot.specs.declared.Status.{Status}
use Rattle.slot.specs.declared.Status.TheVariants.{Unverified, Active, Deprecated}
use Rattle.slot.specs.declared.Slot.{Slot}
use Rattle.slot.specs.Found.{empty_slot, slot_of}
use Rattle.slot.specs.Clashes.{clash}
use Rattle.path.specs.Choices.{path_of}
use Rattle.association.specs.declared.Association.{Association}
use Rattle.association.specs.Form.{refusal0, accepted, refused}
use Rattle.refusal.specs.declared.Refusal.TheVariants.{NoCredit}
use Rattle.payload.specs.Calls.{arrival_of, granted, denied, send_of}

abbrev holding : (low traffic : ℕ) → Status → Slot
holding low traffic s = slot_of (record { address = record { high = 0x20010db800000000; low = low }; traffic = traffic; expiry = 160; status = s })

abbrev checked : Status
checked = Unverified (record { nonce = 7; id = 0; issued = 100; resends = 0 })

-- at time 100, with a credit, the last ageing at 97, and two slots that hold something
abbrev with : (credit : ℕ) → Slot → Slot → Association
with credit first second =
    record { outbound = 8193; inbound = 4097; time = 100; aged = 97; credit = credit; peer = None; next = 1; preferred = Some 0; slots = first ∷ second ∷ replicate 6 empty_slot }

-- UNVERIFIED alone
abbrev waiting : (credit : ℕ) → Association
waiting credit = with credit (holding 1 0 Deprecated) (holding 2 0 checked)

-- UNVERIFIED is preferred, and another is ACTIVE
abbrev verified : (credit : ℕ) → Association
verified credit = with credit (holding 1 0 checked) (holding 2 2 Active)

-- no carrier: ACTIVE for signalling alone, and DEPRECATED
abbrev closed : (credit : ℕ) → Association
closed credit = with credit (holding 1 1 Active) (holding 2 0 Deprecated)

-- an address held twice
abbrev broken : (credit : ℕ) → Association
broken credit = with credit (holding 1 0 Active) (holding 1 0 Deprecated)

-- "A refusal returns its number and .. association .. as lent": the whole of an answer to a send
whole : (send_of (waiting 1000) 1000 ≡ record { outcome = Err NoCredit; association = waiting 1000 })
    × (send_of (waiting 1000) 999 ≡ record { outcome = Ok 1; association = waiting 1 })
unfolding send_of path_of refusal0 clash
whole = (refl, refl)

arrivals : (map (arrival_of (waiting 0)) (0 ∷ 65536 ∷ 1500 ∷ []) ≡ refused 13 (waiting 0) ∷ refused 13 (waiting 0) ∷ accepted (waiting 1500) ∷ [])
    × (arrival_of (waiting 1048000) 1500 ≡ accepted (waiting 1048576))
    × (arrival_of (broken 0) 0 ≡ refused 0 (broken 0))
unfolding arrival_of refusal0 clash
arrivals = (refl, refl, refl)

-- credit 1,000: sending 1,000 gives 15, and 999 is granted; "To ACTIVE no credit is taken.", whether there is any or not
sends : (map (send_of (waiting 1000)) (0 ∷ 65536 ∷ 1000 ∷ 999 ∷ [])
    ≡ denied 13 (waiting 1000) ∷ denied 13 (waiting 1000) ∷ denied 15 (waiting 1000) ∷ granted 1 (waiting 1) ∷ [])
    × (map (send_of (verified 0)) (65536 ∷ 65535 ∷ []) ≡ denied 13 (verified 0) ∷ granted 1 (verified 0) ∷ [])
    × (map (send_of (verified 1000)) (1 ∷ 999 ∷ 1000 ∷ 65535 ∷ []) ≡ replicate 4 (granted 1 (verified 1000)))
    × (map (send_of (closed 1000)) (0 ∷ 1 ∷ []) ≡ denied 13 (closed 1000) ∷ denied 14 (closed 1000) ∷ [])
    × (map (send_of (broken 1000)) (0 ∷ 1 ∷ []) ≡ denied 0 (broken 1000) ∷ denied 0 (broken 1000) ∷ [])
unfolding send_of path_of refusal0 clash
sends = (refl, refl, refl, refl, refl)
