-- The checks before k are written, and the rest of the buffer is as it was. Assumes nothing.
use Rattle.std.proofs.Common.{◌≡◌}
use Rattle.writer.specs.Writes.{written_at}
use Rattle.reply_form.specs.Replies.{checks_bytes}
use Rattle.reply.proofs.put_checks.Given as goal

abbrev pub invariant-loop-k : goal.invariant-loop-k
invariant-loop-k l = l.buffer ≡ written_at 0 (checks_bytes l.inbound l.peer l.next l.nonces 0 l.k) l.initial.buffer
