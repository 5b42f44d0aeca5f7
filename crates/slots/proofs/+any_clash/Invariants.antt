-- Each turn leaves one slot fewer.
use Rattle.std.proofs.Common.{length}
use Rattle.slots.proofs.+any_clash.Given as goal

abbrev pub decreases-any_clash : goal.decreases-any_clash
decreases-any_clash l = length l.slots.now
