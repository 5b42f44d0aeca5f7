-- A covered size can be taken off. Assumes nothing.
use mathlib.Core.Path.{◌≡◌}
use mathlib.Core.Bool.{true}
use Prim.Native.Nat.{ℕ, ◌<◌}
use borrow.Author.Tests.{ltb-true}
use Rattle.credit.specs.Credit.{covers}

pub covered_below : (credit size : ℕ) → covers credit size ≡ true → size < credit
covered_below credit size p = ltb-true size credit p
