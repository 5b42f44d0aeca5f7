-- All slots have had their turn.
use Rattle.std.proofs.Common.{arith}
use Rattle.checks.proofs.Counted.{all_dealt}
use Rattle.checks.proofs.deal.Goals as goal

pub returns : goal.returns
returns c = all_dealt _ _ _ _ _ _ _ _ c.loop-slot.invariant.0 (omega arith)
