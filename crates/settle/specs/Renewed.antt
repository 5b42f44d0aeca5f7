-- Step 3 for every time that a caller may hand in.
use Rattle.std.specs.Prelude.{ℕ, cond, List, ltb}
use Rattle.locator.specs.declared.ListedLocator.{ListedLocator}
use Rattle.slot.specs.declared.Slot.{Slot}
use Rattle.credit.specs.Clock.{time_limit}
use Rattle.readdress.specs.Steps.{renew_all}

-- "time below 2^40": at a time past the limit, which no association has, nothing is renewed
abbrev pub renewed_at : (time : ℕ) → List ListedLocator → List Slot → List Slot
renewed_at time listed ss = cond (ltb time time_limit) (renew_all time listed ss) ss
