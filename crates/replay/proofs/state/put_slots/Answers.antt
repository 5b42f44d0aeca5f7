-- The line of one more slot is put, and at the end those of all are. Assumes nothing.
use Rattle.std.proofs.Common.{ap, arith, take_all}
use Rattle.lines.proofs.Joined.{none, after, same}
use Rattle.lines.specs.State.{slots_text}
use Rattle.lines.proofs.Slots.{slots_next}
use Rattle.replay.proofs.state.put_slots.Goals as goal

pub loop-n-init : goal.loop-n-init
unfolding slots_text
loop-n-init c = none _ _

pub loop-n-preserved : goal.loop-n-preserved
unfolding slots_text
loop-n-preserved c = same (slots_next c.loop-n.n c.args.slots.now _ (omega arith)) (after c.loop-n.invariant c.put_slot.ensures)

pub returns : goal.returns
unfolding slots_text
returns c = same (ap (slots_text 0) (take_all c.loop-n.n c.args.slots.now (omega arith))) c.loop-n.invariant
