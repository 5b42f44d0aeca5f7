-- How many ageings a credit lasts: the bound on the rounds of the private `age_by`. No contract cites it.
use Rattle.std.specs.Prelude.{ℕ, zero, suc, ◌+◌}
use Rattle.credit.specs.Clock.{aged_once}

-- the first ageings of so many that find a credit above 0
unfoldable pub lasting_within : (count credit : ℕ) → ℕ
lasting_within zero credit = 0
lasting_within (suc count) zero = 0
lasting_within (suc count) (suc rest) = 1 + lasting_within count (aged_once (suc rest))

-- the ageings after which nothing is left: each takes at least 1, so there are no more of them than there is credit
abbrev pub lasting : (credit : ℕ) → ℕ
lasting credit = lasting_within credit credit
