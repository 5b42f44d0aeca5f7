-- The loop of `text::put_hex`: the bytes before this one are written.
use Rattle.std.proofs.Common.{◌≡◌, take}
use Rattle.writer.specs.Writes.{written_at}
use Rattle.text.specs.Texts.{hex_of}
use Rattle.text.proofs.put_hex.Given as goal

abbrev pub invariant-loop-i : goal.invariant-loop-i
invariant-loop-i l = l.out ≡ written_at l.at (hex_of (take l.i l.bytes)) l.initial.out
