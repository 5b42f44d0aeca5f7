-- Worked examples, computed from the definitions: the last time at which step 3 changes anything, and the first at which it does not.
use Rattle.std.specs.Prelude.{ℕ, ◌≡◌, refl, false, [], ◌∷◌, map}
use Rattle.locator.specs.declared.ListedLocator.{ListedLocator}
use Rattle.slot.specs.declared.Status.TheVariants.{Active}
use Rattle.slot.specs.declared.Slot.{Slot}
use Rattle.slot.specs.Found.{slot_of}
use Rattle.readdress.specs.Steps.{renew_all}
use Rattle.settle.specs.Renewed.{renewed_at}

-- an entry for address 1, for data and 60 seconds
abbrev entry : ListedLocator
entry = record { address = record { high = 1; low = 1 }; lifetime = 60; spi = 0; traffic = 2; kind = 0; preferred = false }

-- a slot that holds address 1
abbrev holding : (traffic expiry : ℕ) → Slot
holding traffic expiry = slot_of (record { address = record { high = 1; low = 1 }; traffic = traffic; expiry = expiry; status = Active })

-- "time below 2^40"
times : map (λ (time : ℕ). renewed_at time (entry ∷ []) (holding 0 130 ∷ [])) (100 ∷ 1099511627775 ∷ 1099511627776 ∷ [])
    ≡ (holding 2 160 ∷ []) ∷ (holding 2 1099511627835 ∷ []) ∷ (holding 0 130 ∷ []) ∷ []
unfolding renew_all
times = refl
