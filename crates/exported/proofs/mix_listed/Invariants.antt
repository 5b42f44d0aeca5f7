-- The locators from the index on are still to be mixed. Assumes nothing.
use Rattle.std.proofs.Common.{◌≡◌, drop}
use Rattle.exported.specs.Folds.{folded_from}
use Rattle.exported.specs.Readings.{listed_numbers}
use Rattle.exported.proofs.mix_listed.Given as goal

abbrev pub invariant-loop-locator : goal.invariant-loop-locator
invariant-loop-locator l =
    folded_from l.start (listed_numbers l.listed) ≡ folded_from l.h (listed_numbers (drop l.locator-index l.listed))
