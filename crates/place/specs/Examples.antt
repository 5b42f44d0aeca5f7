-- Worked examples, computed from the definitions: the last time at which step 5 changes anything, and the first at which it does not.
use Rattle.std.specs.Prelude.{ℕ, ◌≡◌, refl, false, [], ◌∷◌, map, None}
use Rattle.locator.specs.declared.ListedLocator.{ListedLocator}
use Rattle.slot.specs.declared.Status.TheVariants.{Deprecated}
use Rattle.slot.specs.declared.Slot.{Slot}
use Rattle.slot.specs.Found.{empty_slot, slot_of}
use Rattle.readdress.specs.declared.Placement.{Placement}
use Rattle.place.specs.Placing.{placed_at}

-- an entry for address 1, for data and 60 seconds
abbrev entry : ListedLocator
entry = record { address = record { high = 1; low = 1 }; lifetime = 60; spi = 0; traffic = 2; kind = 0; preferred = false }

-- one slot and no preference
abbrev alone : Slot → Placement
alone s = record { slots = s ∷ []; preferred = None }

-- a slot that holds address 1, and awaits its check
abbrev holding : (expiry : ℕ) → Slot
holding expiry = slot_of (record { address = record { high = 1; low = 1 }; traffic = 2; expiry = expiry; status = Deprecated })

-- "time below 2^40"
times : map (λ (time : ℕ). placed_at time (entry ∷ []) (alone empty_slot)) (100 ∷ 1099511627775 ∷ 1099511627776 ∷ [])
    ≡ alone (holding 160) ∷ alone (holding 1099511627835) ∷ alone empty_slot ∷ []
times = refl
