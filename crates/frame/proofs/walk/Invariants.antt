-- The invariant of `walk`'s loop: the parameters from `at` on, after what was seen, give the walk's answer. The measure is what is left of the packet.
use Rattle.std.proofs.Common.{◌-◌, length}
use Rattle.frame.proofs.Turns.{Walking}
use Rattle.frame.proofs.walk.Given as goal

abbrev pub invariant-loop-p : goal.invariant-loop-p
invariant-loop-p l = Walking l.packet l.seen l.last l.at

abbrev pub decreases-loop-p : goal.decreases-loop-p
decreases-loop-p l = length l.packet - l.at
