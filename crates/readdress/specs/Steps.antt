-- Steps 2 to 6. A set is its locators in listed order.
use Rattle.std.specs.Prelude.{ℕ, Bool, true, not, cond, ◌&&◌, List, [], ◌∷◌, map, eqb, set, None, Option, Some, option_and_then}
use Rattle.std.specs.List.{list_any, find}
use Rattle.address.specs.declared.Address.{Address}
use Rattle.address.specs.Rules.{same_address}
use Rattle.locator.specs.declared.ListedLocator.{ListedLocator}
use Rattle.slot.specs.declared.Status.TheVariants.{Deprecated}
use Rattle.slot.specs.declared.Locator.{Locator}
use Rattle.slot.specs.declared.Slot.{Slot}
use Rattle.slot.specs.Found.{slot_of, with_status, on_locator, holds, is_deprecated}
use Rattle.slot.specs.Expiry.{expiry_at}
use Rattle.path.specs.Choices.{lowest}
use Rattle.readdress.specs.declared.Placement.{Placement}

-- ---- step 2
-- a locator turned DEPRECATED
abbrev pub deprecate : Locator → Locator
deprecate l = with_status l Deprecated

-- "If NEW SPI differs, .. every held locator turns DEPRECATED"
unfoldable pub rebind : (differs : Bool) → List Slot → List Slot
rebind differs ss = cond differs (map (on_locator deprecate) ss) ss

-- ---- step 3
-- the entry of a set that lists the address
abbrev pub entry_for : Address → List ListedLocator → Option ListedLocator
entry_for x listed = find (λ (e : ListedLocator). same_address x e.address) listed

-- it "takes the new traffic type and expiry = stored time + lifetime"
abbrev pub renew_by : (time : ℕ) → Option ListedLocator → Locator → Locator
renew_by time None l = l
renew_by time (Some e) l = record { address = l.address; traffic = e.traffic; expiry = expiry_at time e.lifetime; status = l.status }

-- a locator by the set's entry for its address
abbrev pub renew : (time : ℕ) → List ListedLocator → Locator → Locator
renew time listed l = renew_by time (entry_for l.address listed) l

-- "Each listed address already held takes the new traffic type and expiry .. ACTIVE stays; UNVERIFIED keeps its check." One that is DEPRECATED
-- awaits its new check: `Checks.awaits`
unfoldable pub renew_all : (time : ℕ) → List ListedLocator → List Slot → List Slot
renew_all time listed ss = map (on_locator (renew time listed)) ss

-- ---- step 4
-- the set lists the address
abbrev pub is_listed : Address → List ListedLocator → Bool
is_listed x listed = list_any (λ (e : ListedLocator). same_address x e.address) listed

-- a locator that is not listed turns DEPRECATED
abbrev pub retire : List ListedLocator → Locator → Locator
retire listed l = cond (is_listed l.address listed) l (deprecate l)

-- "Held addresses not listed turn DEPRECATED."
unfoldable pub retire_all : List ListedLocator → List Slot → List Slot
retire_all listed ss = map (on_locator (retire listed)) ss

-- ---- step 5
-- what is held makes room: nothing, or "a DEPRECATED address not listed"
abbrev pub free_held : List ListedLocator → Option Locator → Bool
free_held listed None = true
free_held listed (Some l) = is_deprecated l.status && not (is_listed l.address listed)

-- a slot "that is empty or holds a DEPRECATED address not listed"
abbrev pub is_free : List ListedLocator → Slot → Bool
is_free listed s = free_held listed s.holding

-- a slot with a listed address, which awaits its check
abbrev pub entered : (time : ℕ) → ListedLocator → Slot
entered time e = slot_of (record { address = e.address; traffic = e.traffic; expiry = expiry_at time e.lifetime; status = Deprecated })

-- "A preference for a refilled slot is dropped."
abbrev pub dropped : (n : ℕ) → Option ℕ → Option ℕ
dropped n None = None
dropped n (Some m) = cond (eqb n m) None (Some m)

-- the entry takes the slot that was found for it
abbrev pub place_at : (time : ℕ) → ListedLocator → Option ℕ → Placement → Placement
place_at time e None p = p
place_at time e (Some n) p = record { slots = set p.slots n (entered time e); preferred = dropped n p.preferred }

-- it "takes the lowest slot that is empty or holds a DEPRECATED address not listed"
abbrev pub place : (time : ℕ) → List ListedLocator → ListedLocator → Placement → Placement
place time listed e p = place_at time e (lowest (is_free listed) 0 p.slots) p

-- a slot holds the address
abbrev pub is_held : Address → List Slot → Bool
is_held x ss = list_any (holds x) ss

-- "Each other listed address": one that is held has its slot
abbrev pub place_other : (time : ℕ) → List ListedLocator → ListedLocator → Placement → Placement
place_other time listed e p = cond (is_held e.address p.slots) p (place time listed e p)

-- these entries of the set, "in listed order"
abbrev pub place_all : (time : ℕ) → (listed entries : List ListedLocator) → Placement → Placement
place_all time listed [] p = p
place_all time listed (e ∷ es) p = place_all time listed es (place_other time listed e p)

-- ---- step 6
-- the locator with P
abbrev pub marked_entry : List ListedLocator → Option ListedLocator
marked_entry listed = find (λ (e : ListedLocator). e.preferred) listed

-- the slot that holds its address
abbrev pub marked_slot : List ListedLocator → List Slot → Option ℕ
marked_slot listed ss = option_and_then (λ (e : ListedLocator). lowest (holds e.address) 0 ss) (marked_entry listed)

-- "The locator with P becomes preferred; without P the preference stays."
abbrev pub prefer : Option ℕ → Option ℕ → Option ℕ
prefer None p = p
prefer (Some n) p = Some n
