-- The edits that are left are no more than those at first, and each turn takes an edit off. Assumes nothing.
use Rattle.std.proofs.Common.{◌≤◌, length}
use Rattle.readings.proofs.fold_edits.Given as goal

abbrev pub invariant-loop-bytes : goal.invariant-loop-bytes
invariant-loop-bytes l = length l.rest ≤ length l.edits

abbrev pub decreases-loop-bytes : goal.decreases-loop-bytes
decreases-loop-bytes l = length l.rest
