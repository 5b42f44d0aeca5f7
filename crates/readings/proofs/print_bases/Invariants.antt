-- The edits that are left are no more than those at first. Assumes nothing.
use Rattle.std.proofs.Common.{◌≤◌, length}
use Rattle.readings.proofs.print_bases.Given as goal

abbrev pub invariant-loop-index : goal.invariant-loop-index
invariant-loop-index g l = length l.rest ≤ length l.edits
