-- The steps in document 01's order, for the slots and the preference.
use Rattle.std.specs.Prelude.{ℕ, Bool, List, Option}
use Rattle.packet.specs.declared.EchoResponse.{EchoResponse}
use Rattle.locator.specs.declared.ListedLocator.{ListedLocator}
use Rattle.slot.specs.declared.Slot.{Slot}
use Rattle.readdress.specs.Echoes.{verify_all}
use Rattle.readdress.specs.Steps.{rebind, renew_all, retire_all, place_all, marked_slot, prefer}
use Rattle.readdress.specs.Checks.{checked, check_count}
use Rattle.readdress.specs.declared.Placement.{Placement}

-- steps 1 to 4
unfoldable pub settled : (time : ℕ) → (differs : Bool) → EchoResponse → List ListedLocator → List Slot → List Slot
settled time differs e listed ss = retire_all listed (renew_all time listed (rebind differs (verify_all e ss)))

-- steps 1 to 5
unfoldable pub placed : (time : ℕ) → (differs : Bool) → EchoResponse → List ListedLocator → Option ℕ → List Slot → Placement
placed time differs e listed p ss = place_all time listed listed (record { slots = settled time differs e listed ss; preferred = p })

-- the number of new checks
abbrev pub new_checks : List ListedLocator → Placement → ℕ
new_checks listed p = check_count listed p.slots

-- the slots with them, issued at the time: the first takes the first nonce and the next own Update ID
abbrev pub new_slots : List ListedLocator → (time next : ℕ) → (nonces : List ℕ) → Placement → List Slot
new_slots listed time next nonces p = checked listed time next nonces 0 p.slots

-- the preference after step 6
abbrev pub new_preference : List ListedLocator → Placement → Option ℕ
new_preference listed p = prefer (marked_slot listed p.slots) p.preferred
