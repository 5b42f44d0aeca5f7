-- The words of demand 3 about one address, over the history of calls.
use Rattle.std.specs.Prelude.{ℕ, Bool, false, not, cond, ◌&&◌, ◌||◌, List, [], ◌∷◌, Err, None, Ok, Option, Result, Some}
use Rattle.refusal.specs.declared.Refusal.{Refusal}
use Rattle.address.specs.declared.Address.{Address}
use Rattle.locator.specs.declared.ListedLocator.{ListedLocator}
use Rattle.packet.specs.declared.EchoResponse.{EchoResponse}
use Rattle.packet.specs.declared.EchoResponse.TheVariants.{Absent, Nonce, OtherLength}
use Rattle.packet.specs.declared.Message.{Message}
use Rattle.packet.specs.declared.Message.TheVariants.{Move, Reply, PeerCheck}
use Rattle.packet.specs.Readings.{reading_of}
use Rattle.locator_set.specs.Sets.{listed_in}
use Rattle.slot.specs.declared.Status.{Status}
use Rattle.slot.specs.declared.Status.TheVariants.{Unverified, Active, Deprecated}
use Rattle.slot.specs.Found.{or_else, status_in}
use Rattle.readdress.specs.Steps.{is_listed}
use Rattle.readdress.specs.Checks.{nonce_taken}
use Rattle.association.specs.declared.Association.{Association}
use Rattle.update.specs.Messages.{differs, placement}
use Rattle.history.specs.Calls.{Call, message, arrival, send, tick, announce, Answered, is_accepted, is_repeat, Step}

-- "Finds and leaves: the status of the slot that holds the address, in the association handed in": none where it is not held
abbrev pub finds : Address → Step → Option Status
finds x s = status_in x s.found.slots

-- "and in the one returned"
abbrev pub leaves : Address → Step → Option Status
leaves x s = status_in x s.left.slots

-- "marked authentic": the call is a message, and is marked so
abbrev pub is_authentic : Call → Bool
is_authentic (message packet authentic nonces eight buffer) = authentic
is_authentic (arrival size) = false
is_authentic (send size) = false
is_authentic (tick time buffer) = false
is_authentic (announce list count inbound keymat buffer) = false

-- ---- what a message echoes
-- the nonce of an echo response of 8 bytes
abbrev pub nonce_of : EchoResponse → Option ℕ
nonce_of Absent = None
nonce_of (Nonce n) = Some n
nonce_of OtherLength = None

-- the nonce that what was read of a packet echoes
abbrev pub echo_in : Result Message Refusal → Option ℕ
echo_in (Err r) = None
echo_in (Ok (Move m set)) = nonce_of m.echo
echo_in (Ok (Reply e)) = nonce_of e
echo_in (Ok (PeerCheck c)) = None

-- the nonce that the call echoes, by the packet's bytes
abbrev pub echoed : Call → Option ℕ
echoed (message packet authentic nonces eight buffer) = echo_in (reading_of packet)
echoed (arrival size) = None
echoed (send size) = None
echoed (tick time buffer) = None
echoed (announce list count inbound keymat buffer) = None

-- ---- what a Move lists and retires
-- the locators of the set, where a Move was read
abbrev pub set_in : Result Message Refusal → List ListedLocator
set_in (Err r) = []
set_in (Ok (Move m set)) = listed_in set
set_in (Ok (Reply e)) = []
set_in (Ok (PeerCheck c)) = []

-- the call is a message that reads as a Move whose set lists the address, whatever its answer
abbrev pub lists : Address → Call → Bool
lists x (message packet authentic nonces eight buffer) = is_listed x (set_in (reading_of packet))
lists x (arrival size) = false
lists x (send size) = false
lists x (tick time buffer) = false
lists x (announce list count inbound keymat buffer) = false

-- "A Move retires an address if NEW SPI is not the outbound SPI it finds, or its set lacks the address. A Reply retires none."
abbrev pub retired_by : Address → (found : Association) → Result Message Refusal → Bool
retired_by x found (Err r) = false
retired_by x found (Ok (Move m set)) = differs found m || not (is_listed x (listed_in set))
retired_by x found (Ok (Reply e)) = false
retired_by x found (Ok (PeerCheck c)) = false

-- the same, of a call, whatever its answer: no call but a message is a Move
abbrev pub retires : Address → (found : Association) → Call → Bool
retires x found (message packet authentic nonces eight buffer) = retired_by x found (reading_of packet)
retires x found (arrival size) = false
retires x found (send size) = false
retires x found (tick time buffer) = false
retires x found (announce list count inbound keymat buffer) = false

-- ---- the nonce outstanding
-- "the one taken for it": by what was read of a packet
abbrev pub taken_by : Address → (found : Association) → Result Message Refusal → (nonces : List ℕ) → Option ℕ
taken_by x found (Err r) nonces = None
taken_by x found (Ok (Move m set)) nonces = nonce_taken x (listed_in set) nonces (placement found m (listed_in set)).slots
taken_by x found (Ok (Reply e)) nonces = None
taken_by x found (Ok (PeerCheck c)) nonces = None

-- "by the .. accepted Move that gave it a check": a repeat gives none
abbrev pub taken : Address → (found : Association) → Call → Answered → Option ℕ
taken x found (message packet authentic nonces eight buffer) r =
    cond (is_accepted r && not (is_repeat r)) (taken_by x found (reading_of packet) nonces) None
taken x found (arrival size) r = None
taken x found (send size) r = None
taken x found (tick time buffer) r = None
taken x found (announce list count inbound keymat buffer) r = None

-- "while that Move and every call since left it UNVERIFIED"
abbrev pub while_unverified : (left : Option Status) → Option ℕ → Option ℕ
while_unverified None o = None
while_unverified (Some (Unverified k)) o = o
while_unverified (Some Active) o = None
while_unverified (Some Deprecated) o = None

-- the nonce outstanding after a history, where this one was before it
unfoldable pub outstanding_from : Address → (before : Option ℕ) → List Step → Option ℕ
outstanding_from x before [] = before
outstanding_from x before (s ∷ ss) =
    outstanding_from x (while_unverified (leaves x s) (or_else (taken x s.found s.call s.answered) before)) ss

-- "Nonce outstanding for an address: the one taken for it by the last accepted Move that gave it a check, while that Move and every call since left it
-- UNVERIFIED." At the beginning there is none
abbrev pub outstanding : Address → List Step → Option ℕ
outstanding x h = outstanding_from x None h
