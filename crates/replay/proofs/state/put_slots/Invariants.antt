-- The lines of the first n slots are put. Assumes nothing.
use Rattle.std.proofs.Common.{take}
use Rattle.lines.specs.Laid.{Laid}
use Rattle.lines.specs.State.{slots_text}
use Rattle.replay.proofs.state.put_slots.Given as goal

abbrev pub invariant-loop-n : goal.invariant-loop-n
invariant-loop-n l = Laid (slots_text 0 (take l.n l.slots)) l.initial.text.used l.initial.text.bytes l.text.bytes l.text.used
