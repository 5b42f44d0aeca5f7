-- The reply buffer: a reply fits in it, so that the buffer stays as long as it was. Assumes nothing.
use mathlib.Core.Path.{◌≡◌}
use mathlib.Core.Bool.{Bool, false}
use mathlib.Core.List.{List}
use Prim.Native.Nat.{ℕ, zero, suc, ◌≤◌}
use lib.ListN.{length}
use native.Mathlib.Omega.{arith}
use borrow.Author.Tests.{ltb-false}
use Rattle.packet.specs.declared.Message.{Message}
use Rattle.packet.specs.declared.Message.TheVariants.{Move, Reply, PeerCheck}
use Rattle.packet.specs.Readings.{reading_of, opaque_of}
use Rattle.locator_set.specs.Sets.{listed_in}
use Rattle.refusal.specs.declared.Refusal.{Refusal}
use Rattle.std.specs.Prelude.{Result, Ok, Err}
use Rattle.slot.specs.Found.{slot_count}
use Rattle.readdress.proofs.Moved.{checks_most}
use Rattle.reply_form.specs.Replies.{move_size, response_bytes}
use Rattle.reply_form.proofs.Sizes.{ack_length, move_length, response_length, overwritten_length}
use Rattle.association.specs.declared.Association.{Association}
use Rattle.update.specs.Refusals.{reply_room, opaque_limit, refusal22}
use Rattle.update.specs.Messages.{Handled, differs, checks_of, handle_message, handle_reading, handled, buffer_after}
use Rattle.update.proofs.Cases.{reply_ends, move_ends, check_ends, message_ends}

-- ---- a reply fits
pub move_fits : (checks : ℕ) → checks ≤ slot_count → move_size checks ≤ reply_room
move_fits zero h = omega arith
move_fits (suc checks) h = omega arith

abbrev Fits : (room : ℕ) → Handled → Type 0
Fits room h = length h.reply ≤ room

-- the answer to a Check with opaque bytes that refusal 22 lets pass
pub response_fits : (id : ℕ) (opaque : List ℕ) → refusal22 opaque ≡ false → length (response_bytes id opaque) ≤ reply_room
response_fits id opaque q = omega (arith, response_length id opaque, ltb-false opaque_limit (length opaque) q)

message_fits : (a : Association) (packet : List ℕ) (g : Message) (nonces : List ℕ) → length a.slots ≡ slot_count →
    Fits reply_room (handle_message a packet g nonces)
message_fits a packet (PeerCheck c) nonces whole =
    check_ends (Fits reply_room) a (λ n. omega arith) c.id (opaque_of packet c) (response_fits c.id (opaque_of packet c)) (response_fits c.id (opaque_of packet c))
message_fits a packet (Reply e) nonces whole = reply_ends (Fits reply_room) a (λ n. omega arith) e (omega arith)
message_fits a packet (Move m s) nonces whole =
    let set = listed_in s in
    let acked = ack_length m.id in
    move_ends (Fits reply_room) a (λ n. omega arith) m set nonces (omega arith)
    (λ q r.
    let size = move_length a.inbound m.id a.next nonces (checks_of a m set) in
    let fits = move_fits (checks_of a m set) (checks_most a.time (differs a m) m.echo set a.preferred a.slots whole) in
    omega arith)

reading_fits : (a : Association) (packet : List ℕ) (r : Result Message Refusal) (nonces : List ℕ) → length a.slots ≡ slot_count →
    Fits reply_room (handle_reading a packet r nonces)
reading_fits a packet (Err why) nonces whole = omega arith
reading_fits a packet (Ok g) nonces whole = message_fits a packet g nonces whole

module _ (a : Association) (packet : List ℕ) (authentic : Bool) (nonces buffer : List ℕ) where
  pub reply_fits : length a.slots ≡ slot_count → length (handled a packet authentic nonces (length buffer)).reply ≤ length buffer
  reply_fits whole =
      message_ends (Fits (length buffer)) a (λ n. omega arith) packet authentic nonces (length buffer)
      (λ p q r.
      let room = ltb-false (length buffer) reply_room q in
      let fits = reading_fits a packet (reading_of packet) nonces whole in
      omega arith)

  -- the buffer stays as long as it was
  pub buffer_length : length a.slots ≡ slot_count → length (buffer_after a packet authentic nonces buffer) ≡ length buffer
  buffer_length whole = overwritten_length (handled a packet authentic nonces (length buffer)).reply buffer (reply_fits whole)
