-- The loop of `text::put`: the bytes before this one are written.
use Rattle.std.proofs.Common.{◌≡◌, take}
use Rattle.writer.specs.Writes.{written_at}
use Rattle.text.proofs.put.Given as goal

abbrev pub invariant-loop-i : goal.invariant-loop-i
invariant-loop-i l = l.out ≡ written_at l.at (take l.i l.text) l.initial.out
