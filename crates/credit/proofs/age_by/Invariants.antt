-- The loop's invariant: the credit is what the ageings that are made leave. The measure is what is left of those that the credit lasts, so that there are no
-- more rounds than these, whatever the count.
use Rattle.std.proofs.Common.{◌≡◌, ◌-◌, ◌≤◌}
use Rattle.credit.specs.Clock.{aged_by}
use Rattle.credit.specs.Lasting.{lasting}
use Rattle.credit.proofs.age_by.Given as goal

abbrev pub invariant-loop-made : goal.invariant-loop-made
invariant-loop-made l = (l.made ≤ l.count) × (l.aged ≡ aged_by l.made l.credit)

abbrev pub decreases-loop-made : goal.decreases-loop-made
decreases-loop-made l = lasting l.credit - l.made
