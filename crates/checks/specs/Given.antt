-- New checks, in so far as there are own Update IDs for them.
use Rattle.std.specs.Prelude.{ℕ, cond, List}
use Rattle.locator.specs.declared.ListedLocator.{ListedLocator}
use Rattle.slot.specs.declared.Slot.{Slot}
use Rattle.readdress.specs.Checks.{check_count, checked}
use Rattle.update.specs.Refusals.{refusal11}

-- the slots with their new checks; where own Update IDs would be used up (refusal 11), the slots as they are
abbrev pub given : List ListedLocator → (time next : ℕ) → (nonces : List ℕ) → List Slot → List Slot
given listed time next nonces ss = cond (refusal11 next (check_count listed ss)) ss (checked listed time next nonces 0 ss)
