-- The checks of the slots before the one whose turn it is are written where they are due, and these slots are counted. Assumes nothing.
use Rattle.std.proofs.Common.{◌≡◌, ◌++◌, ◌*◌, ◌≤◌, length, map, take, drop}
use Rattle.writer.specs.Writes.{written_at}
use Rattle.reply_form.specs.Replies.{resend_size}
use Rattle.slot.specs.Checks.{resend_slot}
use Rattle.resend.specs.Resends.{resent_bytes}
use Rattle.resend.proofs.resend_all.Given as goal

abbrev pub invariant-loop-slot : goal.invariant-loop-slot
invariant-loop-slot l = record {
  slots : l.slots ≡ map (resend_slot l.time) (take l.slot-index l.fn.slots) ++ drop l.slot-index l.fn.slots;
  size : l.at ≡ length (resent_bytes l.inbound l.time (take l.slot-index l.fn.slots));
  small : l.at ≤ l.slot-index * resend_size;
  buffer : l.buffer ≡ written_at 0 (resent_bytes l.inbound l.time (take l.slot-index l.fn.slots)) l.fn.buffer;
}
