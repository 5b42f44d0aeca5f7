-- Worked examples, computed from the definitions: new checks up to the last own Update ID, and none past it.
use Rattle.std.specs.Prelude.{ℕ, ◌≡◌, refl, false, List, [], ◌∷◌, map}
use Rattle.locator.specs.declared.ListedLocator.{ListedLocator}
use Rattle.slot.specs.declared.Status.{Status}
use Rattle.slot.specs.declared.Status.TheVariants.{Unverified, Deprecated}
use Rattle.slot.specs.declared.Slot.{Slot}
use Rattle.slot.specs.Found.{slot_of}
use Rattle.readdress.specs.Checks.{check_count, checked}
use Rattle.checks.specs.Given.{given}

-- an entry for address n
abbrev entry : (n : ℕ) → ListedLocator
entry n = record { address = record { high = 1; low = n }; lifetime = 60; spi = 0; traffic = 2; kind = 0; preferred = false }

-- a slot that holds address n
abbrev holding : (n : ℕ) → Status → Slot
holding n s = slot_of (record { address = record { high = 1; low = n }; traffic = 2; expiry = 160; status = s })

-- UNVERIFIED, with this check, issued at 100
abbrev waiting : (nonce id : ℕ) → Status
waiting nonce id = Unverified (record { nonce = nonce; id = id; issued = 100; resends = 0 })

-- two addresses that await their checks
abbrev found : List Slot
found = holding 1 Deprecated ∷ holding 2 Deprecated ∷ []

-- the last own Update ID is 2^32 - 1
given_up_to_the_last : map (λ (next : ℕ). given (entry 1 ∷ entry 2 ∷ []) 100 next (11 ∷ 12 ∷ []) found) (3 ∷ 4294967294 ∷ 4294967295 ∷ [])
    ≡ (holding 1 (waiting 11 3) ∷ holding 2 (waiting 12 4) ∷ [])
    ∷ (holding 1 (waiting 11 4294967294) ∷ holding 2 (waiting 12 4294967295) ∷ [])
    ∷ found
    ∷ []
unfolding check_count checked
given_up_to_the_last = refl
