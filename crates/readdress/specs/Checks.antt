-- New checks, and refusal 10. Step 3 says that DEPRECATED "turns UNVERIFIED with a new check", and step 5 that a new address "is UNVERIFIED"; the
-- checks go "in slot order", over both, so they are given out when steps 1 to 5 are done.
use Rattle.std.specs.Prelude.{ℕ, ◌+◌, Bool, false, cond, ◌&&◌, ◌||◌, List, [], ◌∷◌, eqb, get_or, None, Option, Some, option_map}
use Rattle.std.specs.List.{list_any}
use Rattle.address.specs.declared.Address.{Address}
use Rattle.locator.specs.declared.ListedLocator.{ListedLocator}
use Rattle.slot.specs.declared.Check.{Check}
use Rattle.slot.specs.declared.Status.{Status}
use Rattle.slot.specs.declared.Status.TheVariants.{Unverified}
use Rattle.slot.specs.declared.Locator.{Locator}
use Rattle.slot.specs.declared.Slot.{Slot}
use Rattle.slot.specs.Found.{with_status, on_locator, holds, is_deprecated}
use Rattle.slots.specs.Rules.{is_outstanding}
use Rattle.readdress.specs.Steps.{is_listed}

-- what is held after step 5 gets a new check: a listed address that is DEPRECATED
abbrev pub awaits_held : List ListedLocator → Option Locator → Bool
awaits_held listed None = false
awaits_held listed (Some l) = is_deprecated l.status && is_listed l.address listed

-- the same, of a slot
abbrev pub awaits : List ListedLocator → Slot → Bool
awaits listed s = awaits_held listed s.holding

-- the number of new checks
unfoldable pub check_count : List ListedLocator → List Slot → ℕ
check_count listed [] = 0
check_count listed (s ∷ ss) = cond (awaits listed s) (1 + check_count listed ss) (check_count listed ss)

-- the check that takes nonce k of those offered and own Update ID next + k. Order 4: its issue time is the stored time, and it was not sent again yet
abbrev pub new_check : (time next : ℕ) → (nonces : List ℕ) → (k : ℕ) → Check
new_check time next nonces k = record { nonce = get_or nonces k 0; id = next + k; issued = time; resends = 0 }

-- UNVERIFIED, with that check
abbrev pub checked_by : (time next : ℕ) → (nonces : List ℕ) → (k : ℕ) → Status
checked_by time next nonces k = Unverified (new_check time next nonces k)

-- the slot with check k
abbrev pub with_check : (time next : ℕ) → (nonces : List ℕ) → (k : ℕ) → Slot → Slot
with_check time next nonces k s = on_locator (λ (l : Locator). with_status l (checked_by time next nonces k)) s

-- from check k on: "New checks, in slot order, take them in order and own Update IDs in order."
unfoldable pub checked : List ListedLocator → (time next : ℕ) → (nonces : List ℕ) → (k : ℕ) → List Slot → List Slot
checked listed time next nonces k [] = []
checked listed time next nonces k (s ∷ ss) =
    cond (awaits listed s) (with_check time next nonces k s ∷ checked listed time next nonces (k + 1) ss) (s ∷ checked listed time next nonces k ss)

-- which of the new checks, from check k on, an address gets; none where it gets none
unfoldable pub check_for : Address → List ListedLocator → (k : ℕ) → List Slot → Option ℕ
check_for x listed k [] = None
check_for x listed k (s ∷ ss) = cond (holds x s) (cond (awaits listed s) (Some k) None) (check_for x listed (cond (awaits listed s) (k + 1) k) ss)

-- the nonce that its check takes
abbrev pub nonce_taken : Address → List ListedLocator → (nonces : List ℕ) → List Slot → Option ℕ
nonce_taken x listed nonces ss = option_map (λ (k : ℕ). get_or nonces k 0) (check_for x listed 0 ss)

-- "distinct from each other": one of them stands among those after it
abbrev pub twice : List ℕ → Bool
twice [] = false
twice (n ∷ ns) = list_any (eqb n) ns || twice ns

-- refusal 10: "the 8 offered nonces not distinct from each other and from those outstanding before"
abbrev pub refusal10 : (nonces : List ℕ) → List Slot → Bool
refusal10 nonces ss = twice nonces || list_any (is_outstanding ss) nonces
