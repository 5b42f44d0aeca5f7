-- Worked examples, computed from the definitions: the order of the pick.
use Rattle.std.specs.Prelude.{ℕ, ◌≡◌, refl, true, false, List, [], ◌∷◌, map, replicate, None, Some}
use Rattle.slot.specs.declared.Status.{Status}
use Rattle.slot.specs.declared.Status.TheVariants.{Unverified, Active, Deprecated}
use Rattle.slot.specs.declared.Slot.{Slot}
use Rattle.slot.specs.Found.{empty_slot, slot_of}
use Rattle.path.specs.Choices.{traffic_both, traffic_data, carries, path_of}
use Rattle.path.specs.declared.Path.TheVariants.{ToActive, ToUnverified, NoCarrier}

abbrev holding : (traffic : ℕ) → Status → Slot
holding traffic s = slot_of (record { address = record { high = 1; low = 1 }; traffic = traffic; expiry = 160; status = s })

abbrev checked : Status
checked = Unverified (record { nonce = 7; id = 0; issued = 100; resends = 0 })

-- slot 0 is UNVERIFIED, 1 is ACTIVE for signalling alone, 2 is UNVERIFIED, 3 and 4 are ACTIVE, 5 is DEPRECATED
abbrev mixed : List Slot
mixed = holding 0 checked ∷ holding 1 Active ∷ holding 2 checked ∷ holding 2 Active ∷ holding 0 Active ∷ holding 0 Deprecated ∷ empty_slot ∷ empty_slot ∷ []

-- the same without slots 3 and 4
abbrev fewer : List Slot
fewer = holding 0 checked ∷ holding 1 Active ∷ holding 2 checked ∷ empty_slot ∷ empty_slot ∷ holding 0 Deprecated ∷ empty_slot ∷ empty_slot ∷ []

-- where ACTIVE carriers are, the preferred one or the lowest is picked, whatever else is preferred
to_active : map (λ p. path_of p mixed) (None ∷ Some 0 ∷ Some 1 ∷ Some 4 ∷ Some 5 ∷ Some 6 ∷ [])
    ≡ ToActive 3 ∷ ToActive 3 ∷ ToActive 3 ∷ ToActive 4 ∷ ToActive 3 ∷ ToActive 3 ∷ []
unfolding path_of
to_active = refl

-- where none is, the same among UNVERIFIED carriers
to_unverified : map (λ p. path_of p fewer) (None ∷ Some 1 ∷ Some 2 ∷ Some 5 ∷ Some 8 ∷ [])
    ≡ ToUnverified 0 ∷ ToUnverified 0 ∷ ToUnverified 2 ∷ ToUnverified 0 ∷ ToUnverified 0 ∷ []
unfolding path_of
to_unverified = refl

-- an UNVERIFIED locator that is for signalling alone is passed over, also where it is preferred
past_signalling : map (λ p. path_of p (holding 1 checked ∷ holding 1 checked ∷ holding 2 checked ∷ [])) (None ∷ Some 0 ∷ Some 1 ∷ Some 2 ∷ [])
    ≡ ToUnverified 2 ∷ ToUnverified 2 ∷ ToUnverified 2 ∷ ToUnverified 2 ∷ []
unfolding path_of
past_signalling = refl

-- "A locator of traffic type 0 or 2 carries payload.": no other does, also one that no message can bring
carriers : (map carries (0 ∷ 1 ∷ 2 ∷ 3 ∷ 4 ∷ 255 ∷ []) ≡ true ∷ false ∷ true ∷ false ∷ false ∷ false ∷ [])
    × (traffic_both ∷ traffic_data ∷ [] ≡ 0 ∷ 2 ∷ [])
carriers = (refl, refl)

-- signalling alone, a traffic type of 3 and DEPRECATED carry nothing, and neither does an empty slot
to_none : map (λ p. path_of p (holding 1 Active ∷ holding 1 checked ∷ holding 0 Deprecated ∷ holding 3 Active ∷ holding 3 checked ∷ empty_slot ∷ []))
    (None ∷ Some 0 ∷ Some 1 ∷ Some 2 ∷ Some 3 ∷ Some 4 ∷ Some 5 ∷ [])
    ≡ replicate 7 NoCarrier
unfolding path_of
to_none = refl
