-- The loop's invariant: the locators from `at` on, after those that were read, give the set's answer. The measure is what is left of the set.
use Rattle.std.proofs.Common.{length, ◌-◌}
use Rattle.locator_set.proofs.Passes.{Passing}
use Rattle.locator_set.proofs.read_set.Given as goal

abbrev pub invariant-loop-at : goal.invariant-loop-at
invariant-loop-at l = Passing l.s l.listed l.used l.count l.marked l.at

abbrev pub decreases-loop-at : goal.decreases-loop-at
decreases-loop-at l = length l.s - l.at
