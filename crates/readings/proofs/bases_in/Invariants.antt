-- The base packets so far lie in the file. Assumes nothing.
use Rattle.std.proofs.Common.{◌≤◌, length}
use Rattle.readings.proofs.bases_in.Given as goal

abbrev pub invariant-loop : goal.invariant-loop
invariant-loop l = l.at ≤ length l.s
