-- The message call: from the association, the packet's bytes, the mark, the eight nonces and the length of the reply buffer to the whole answer.
use Rattle.std.specs.Prelude.{ℕ, ◌+◌, Bool, not, cond, List, [], eqb, length, Err, Ok, Option, Result, Some}
use Rattle.refusal.specs.declared.Refusal.{Refusal}
use Rattle.refusal.specs.Table.{refusal}
use Rattle.packet.specs.declared.EchoResponse.{EchoResponse}
use Rattle.packet.specs.declared.MoveFields.{MoveFields}
use Rattle.packet.specs.declared.Message.{Message}
use Rattle.packet.specs.declared.Message.TheVariants.{Move, Reply, PeerCheck}
use Rattle.packet.specs.Readings.{reading_of, opaque_of}
use Rattle.locator_set.specs.Sets.{listed_in}
use Rattle.locator.specs.declared.ListedLocator.{ListedLocator}
use Rattle.readdress.specs.declared.Placement.{Placement}
use Rattle.readdress.specs.Echoes.{verify_all, refusal8}
use Rattle.readdress.specs.Checks.{refusal10}
use Rattle.readdress.specs.Moves.{placed, new_checks, new_slots, new_preference}
use Rattle.association.specs.declared.Association.{Association}
use Rattle.association.specs.Form.{refusal0}
use Rattle.reply_form.specs.Replies.{ack_bytes, move_bytes, response_bytes, overwritten}
use Rattle.update.specs.Refusals.{refusal1, refusal2, refusal7, repeats, refusal9, refusal11, refusal22}
use Rattle.update.specs.declared.MessageAnswer.{MessageAnswer}
use Rattle.update.specs.declared.Received.{Received}
use Rattle.update.specs.declared.Received.TheVariants.{Moved, Repeated, Replied, Responded}

-- ---- what an accepted message leaves
-- "a Reply by step 1 alone"
abbrev pub after_reply : Association → EchoResponse → Association
after_reply a e = record {
  outbound = a.outbound;
  inbound = a.inbound;
  time = a.time;
  aged = a.aged;
  credit = a.credit;
  peer = a.peer;
  next = a.next;
  preferred = a.preferred;
  slots = verify_all e a.slots;
}

-- NEW SPI differs from the outbound SPI
abbrev pub differs : Association → MoveFields → Bool
differs a m = not (eqb m.new a.outbound)

-- steps 1 to 5 of a Move that lists this set
abbrev pub placement : Association → MoveFields → (set : List ListedLocator) → Placement
placement a m set = placed a.time (differs a m) m.echo set a.preferred a.slots

-- the number of checks that the Move brings
abbrev pub checks_of : Association → MoveFields → (set : List ListedLocator) → ℕ
checks_of a m set = new_checks set (placement a m set)

-- step 2: NEW SPI "becomes the outbound SPI"
abbrev pub new_outbound : MoveFields → ℕ
new_outbound m = m.new

-- step 7: "The peer's Update ID is stored."
abbrev pub new_peer : MoveFields → Option ℕ
new_peer m = Some m.id

-- steps 1 to 7: "The inbound SPI stays", and the own Update IDs that checks took are used up
unfoldable pub after_move : Association → MoveFields → (set : List ListedLocator) → (nonces : List ℕ) → Association
after_move a m set nonces = record {
  outbound = new_outbound m;
  inbound = a.inbound;
  time = a.time;
  aged = a.aged;
  credit = a.credit;
  peer = new_peer m;
  next = a.next + checks_of a m set;
  preferred = new_preference set (placement a m set);
  slots = new_slots set a.time a.next nonces (placement a m set);
}

-- a Check "stores its ID"
abbrev pub after_check : Association → (id : ℕ) → Association
after_check a id = record {
  outbound = a.outbound;
  inbound = a.inbound;
  time = a.time;
  aged = a.aged;
  credit = a.credit;
  peer = Some id;
  next = a.next;
  preferred = a.preferred;
  slots = a.slots;
}

-- ---- the answers
-- an answer with the reply's bytes themselves
pub record Handled : Type 0 where
  pub outcome : Result Received Refusal
  pub reply : List ℕ
  pub checks : ℕ
  pub keymat : ℕ
  pub left : Association

-- "A refusal returns its number and zero reply bytes; association and buffer are as lent."
abbrev pub declined : Refusal → Association → Handled
declined why a = record { outcome = Err why; reply = []; checks = 0; keymat = 0; left = a }

-- the same, by the refusal's number
abbrev pub refused : (number : ℕ) → Association → Handled
refused number a = declined (refusal number) a

-- "A Move whose ID equals the highest seen is Repeated: an 8-byte ACK, nothing changed." "KEYMAT Index (0 for a Reply or Repeated)"
abbrev pub repeated : Association → (id : ℕ) → Handled
repeated a id = record { outcome = (Ok Repeated); reply = ack_bytes id; checks = 0; keymat = 0; left = a }

-- "A Reply writes nothing."
abbrev pub replied : Association → EchoResponse → Handled
replied a e = record { outcome = (Ok Replied); reply = []; checks = 0; keymat = 0; left = after_reply a e }

-- "The answer tells reply bytes, number of checks, and KEYMAT Index"
abbrev pub moved : Association → MoveFields → (set : List ListedLocator) → (nonces : List ℕ) → Handled
moved a m set nonces = record {
  outcome = (Ok Moved);
  reply = move_bytes a.inbound m.id a.next nonces (checks_of a m set);
  checks = checks_of a m set;
  keymat = m.keymat;
  left = after_move a m set nonces;
}

-- a Check "gets an ACK of the peer's ID and an echo response with the same opaque bytes", and "its answer's KEYMAT Index is 0"
abbrev pub responded : Association → (id : ℕ) → (opaque : List ℕ) → Handled
responded a id opaque = record { outcome = (Ok Responded); reply = response_bytes id opaque; checks = 0; keymat = 0; left = after_check a id }

-- "a Repeated Check is answered with the bytes it would get if new and changes nothing"
abbrev pub repeated_check : Association → (id : ℕ) → (opaque : List ℕ) → Handled
repeated_check a id opaque = record { outcome = (Ok Repeated); reply = response_bytes id opaque; checks = 0; keymat = 0; left = a }

-- ---- the refusals in order
-- a Reply: refusal 8
unfoldable pub handle_reply : Association → EchoResponse → Handled
handle_reply a e = cond (refusal8 e a.slots) (refused 8 a) (replied a e)

-- a Move that refusals 0 to 10 let pass: refusal 11, or steps 1 to 7
abbrev pub accepted : Association → MoveFields → (set : List ListedLocator) → (nonces : List ℕ) → Handled
accepted a m set nonces = cond (refusal11 a.next (checks_of a m set)) (refused 11 a) (moved a m set nonces)

-- a Move that lists this set: refusal 7, Repeated, refusals 8 to 11
unfoldable pub handle_move : Association → MoveFields → (set : List ListedLocator) → (nonces : List ℕ) → Handled
handle_move a m set nonces =
    cond (refusal7 m.id a.peer) (refused 7 a)
    (cond (repeats m.id a.peer) (repeated a m.id)
    (cond (refusal8 m.echo a.slots) (refused 8 a)
    (cond (refusal9 a.outbound m.old m.new set) (refused 9 a)
    (cond (refusal10 nonces a.slots) (refused 10 a)
    (accepted a m set nonces)))))

-- a Check with these opaque bytes: refusal 22, "tried after row 5"; "A Check falls under row 7 as a Move does", and is Repeated as one is
unfoldable pub handle_check : Association → (id : ℕ) → (opaque : List ℕ) → Handled
handle_check a id opaque =
    cond (refusal22 opaque) (refused 22 a)
    (cond (refusal7 id a.peer) (refused 7 a)
    (cond (repeats id a.peer) (repeated_check a id opaque)
    (responded a id opaque)))

-- what a packet says: a Move with the locators that it lists, a Reply, or a Check with the packet's opaque bytes
abbrev pub handle_message : Association → (packet : List ℕ) → Message → (nonces : List ℕ) → Handled
handle_message a packet (Move m set) nonces = handle_move a m (listed_in set) nonces
handle_message a packet (Reply e) nonces = handle_reply a e
handle_message a packet (PeerCheck c) nonces = handle_check a c.id (opaque_of packet c)

-- what is read of the packet: one of the refusals 3 to 6, or what it says
abbrev pub handle_reading : Association → (packet : List ℕ) → Result Message Refusal → (nonces : List ℕ) → Handled
handle_reading a packet (Err why) nonces = declined why a
handle_reading a packet (Ok message) nonces = handle_message a packet message nonces

-- refusals 0, 1 and 2, and then what is read of the packet: "A message is tried in" the order 0 to 11, a Check by 22
-- and 7 after 5
unfoldable pub handled : Association → (packet : List ℕ) → (authentic : Bool) → (nonces : List ℕ) → (room : ℕ) → Handled
handled a packet authentic nonces room =
    cond (refusal0 a) (refused 0 a)
    (cond (refusal1 room) (refused 1 a)
    (cond (refusal2 authentic) (refused 2 a)
    (handle_reading a packet (reading_of packet) nonces)))

-- ---- the whole answer of the call
-- what the call returns: "reply bytes, number of checks, and KEYMAT Index"
abbrev pub answer_of : Handled → MessageAnswer
answer_of h = record { outcome = h.outcome; written = length h.reply; checks = h.checks; keymat = h.keymat; association = h.left }

-- the answer to a message that is lent this buffer
abbrev pub message_of : Association → (packet : List ℕ) → (authentic : Bool) → (nonces buffer : List ℕ) → MessageAnswer
message_of a packet authentic nonces buffer = answer_of (handled a packet authentic nonces (length buffer))

-- what the buffer holds afterwards: the reply, and then what was there
abbrev pub buffer_after : Association → (packet : List ℕ) → (authentic : Bool) → (nonces buffer : List ℕ) → List ℕ
buffer_after a packet authentic nonces buffer = overwritten (handled a packet authentic nonces (length buffer)).reply buffer
