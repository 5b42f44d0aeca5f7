-- The words of order 4 about checks, over the history of calls: "A check is known by its Update ID."
use Rattle.std.specs.Prelude.{ℕ, ◌+◌, ◌≤◌, ◌<◌, Bool, false, not, cond, ◌&&◌, List, [], ◌∷◌, eqb, Err, None, Ok, Option, Result, Some}
use Rattle.std.specs.List.{list_any}
use Rattle.refusal.specs.declared.Refusal.{Refusal}
use Rattle.packet.specs.declared.Message.{Message}
use Rattle.packet.specs.declared.Message.TheVariants.{Move, Reply, PeerCheck}
use Rattle.packet.specs.Readings.{reading_of}
use Rattle.locator_set.specs.Sets.{listed_in}
use Rattle.slot.specs.declared.Status.{Status}
use Rattle.slot.specs.declared.Status.TheVariants.{Unverified, Active, Deprecated}
use Rattle.slot.specs.Found.{held_as}
use Rattle.association.specs.declared.Association.{Association}
use Rattle.update.specs.Messages.{checks_of}
use Rattle.history.specs.Calls.{Call, message, arrival, send, tick, announce, Answered, is_accepted, is_repeat, Step}

-- ---- own Update IDs
-- the checks that what was read of a packet brings
abbrev pub checks_by : (found : Association) → Result Message Refusal → ℕ
checks_by found (Err r) = 0
checks_by found (Ok (Move m set)) = checks_of found m (listed_in set)
checks_by found (Ok (Reply e)) = 0
checks_by found (Ok (PeerCheck c)) = 0

-- the checks that a call issues: those of an accepted Move; a repeat issues none
abbrev pub checks_in : (found : Association) → Call → Answered → ℕ
checks_in found (message packet authentic nonces eight buffer) r =
    cond (is_accepted r && not (is_repeat r)) (checks_by found (reading_of packet)) 0
checks_in found (arrival size) r = 0
checks_in found (send size) r = 0
checks_in found (tick time buffer) r = 0
checks_in found (announce list count inbound keymat buffer) r = 0

-- the own Update IDs that a call takes besides: "the Update ID is the next own one, which rises by one", of an accepted announcement
abbrev pub announced_in : Call → Answered → ℕ
announced_in (message packet authentic nonces eight buffer) r = 0
announced_in (arrival size) r = 0
announced_in (send size) r = 0
announced_in (tick time buffer) r = 0
announced_in (announce list count inbound keymat buffer) r = cond (is_accepted r) 1 0

-- how many own Update IDs a call takes, for checks and for announcements together
abbrev pub ids_in : Step → ℕ
ids_in s = checks_in s.found s.call s.answered + announced_in s.call s.answered

-- the next own Update ID after a history, where this one was next before it
unfoldable pub next_id : (next : ℕ) → List Step → ℕ
next_id next [] = next
next_id next (s ∷ ss) = next_id (next + ids_in s) ss

-- "own Update IDs in order": the call takes this one, where `next` is the next own one
abbrev pub Takes : (id next : ℕ) → Step → Type 0
Takes id next s = (next ≤ id) × (id < next + ids_in s)

-- "it is issued by the accepted Move that took that ID for it"
abbrev pub Issues : (id next : ℕ) → Step → Type 0
Issues id next s = (next ≤ id) × (id < next + checks_in s.found s.call s.answered)

-- ---- the time
-- the time of an accepted tick; none where the call is no tick, or refused
abbrev pub ticked_at : Call → Answered → Option ℕ
ticked_at (message packet authentic nonces eight buffer) r = None
ticked_at (arrival size) r = None
ticked_at (send size) r = None
ticked_at (tick time buffer) r = cond (is_accepted r) (Some time) None
ticked_at (announce list count inbound keymat buffer) r = None

-- that time, or else the one before
abbrev pub time_or : (before : ℕ) → Option ℕ → ℕ
time_or before None = before
time_or before (Some time) = time

-- "the time of the last accepted tick of the sequence", or else this one, "the stored time with which the sequence begins"
unfoldable pub last_tick : (begun : ℕ) → List Step → ℕ
last_tick begun [] = begun
last_tick begun (s ∷ ss) = last_tick (time_or begun (ticked_at s.call s.answered)) ss

-- ---- outstanding
-- the status is UNVERIFIED with this Update ID
abbrev pub is_check : (id : ℕ) → Status → Bool
is_check id (Unverified k) = eqb id k.id
is_check id Active = false
is_check id Deprecated = false

-- a check with this Update ID is outstanding: some slot is UNVERIFIED with it
abbrev pub is_outstanding : (id : ℕ) → Association → Bool
is_outstanding id a = list_any (held_as (is_check id)) a.slots
