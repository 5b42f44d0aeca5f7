-- `resend::resend_all` meets its contract: each turn of its loop writes the slot's bytes after those of the slots before it. Assumes nothing.
use Rattle.std.proofs.Common.{◌≤◌, length, refl, sym, ◌∙◌, arith}
use Rattle.std.proofs.lemmas.List.{length-append, take_all}
use borrow.Author.Tests.{ltb-false}
use Rattle.writer.proofs.Writes.{written_none, written_more, written_first}
use Rattle.resend.specs.Resends.{resent_bytes, tick_room}
use Rattle.resend.proofs.Written.{turn_slots, turn_bytes, resent_most}
use Rattle.resend.proofs.resend_all.Goals as goal

pub loop-slot-init : goal.loop-slot-init
unfolding resent_bytes
loop-slot-init c = record { slots = refl; size = refl; small = omega arith; buffer = written_none 0 _ }

pub loop-slot-preserved : goal.loop-slot-preserved
loop-slot-preserved c =
    let a = c.args in
    let l = c.loop-slot.invariant in
    let sent = c.send_due-at.ensures in
    let size = l.size in
    let small = l.small in
    let more = sent.value in
    let most = sent.small in
    let room : tick_room ≤ length a.buffer.now = ltb-false _ _ (sym c.is_short_buffer.ensures ∙ c.if-is_short_buffer.false) in
    let bytes = turn_bytes a.inbound a.time a.slots.now c.loop-slot.slots c.loop-slot.slot-index _ (omega arith) l.slots in
    record {
      slots = turn_slots a.inbound a.time a.slots.now c.loop-slot.slots c.loop-slot.slot-index _ (omega arith) l.slots _ sent.slot_after;
      size = rw (bytes, length-append, ← l.size, ← sent.value);
      small = omega arith;
      buffer = rw bytes (written_more 0 _ _ _ _ _ _ (omega arith) (omega arith) l.buffer sent.buffer_after);
    }

pub returns-clause-buffer_after : goal.returns-clause-buffer_after
returns-clause-buffer_after c =
    let a = c.args in
    let l = c.loop-slot.invariant in
    let room : tick_room ≤ length a.buffer.now = ltb-false _ _ (sym c.is_short_buffer.ensures ∙ c.if-is_short_buffer.false) in
    let most = resent_most a.inbound a.time a.slots.now in
    rw (← c.is_short_buffer.ensures, c.if-is_short_buffer.false, ← written_first (resent_bytes a.inbound a.time a.slots.now) a.buffer.now (omega arith))
    (rw (take_all c.loop-slot.slot-index a.slots.now (omega arith)) at l.buffer)
