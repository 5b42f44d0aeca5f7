-- Step 5 for every time that a caller may hand in.
use Rattle.std.specs.Prelude.{ℕ, cond, List, ltb}
use Rattle.locator.specs.declared.ListedLocator.{ListedLocator}
use Rattle.credit.specs.Clock.{time_limit}
use Rattle.readdress.specs.declared.Placement.{Placement}
use Rattle.readdress.specs.Steps.{place_all}

-- "time below 2^40": at a time past the limit, which no association has, nothing is placed
abbrev pub placed_at : (time : ℕ) → List ListedLocator → Placement → Placement
placed_at time listed p = cond (ltb time time_limit) (place_all time listed listed p) p
