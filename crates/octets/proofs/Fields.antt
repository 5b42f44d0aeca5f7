-- Laws of a number in bytes, over the width. Assumes nothing.
use Prim.Native.Nat.{ℕ, ◌+◌, ◌≤◌, ◌<◌}
use mathlib.Core.Path.{◌≡◌}
use mathlib.Core.List.{List}
use lib.ListN.{length}
use borrow.Author.Tests.{le-leb, lt-leb}
use Rattle.octets.specs.Numbers.{big_endian, number_at}

-- a field that lies within s holds its big-endian number
pub number_within : (s : List ℕ) (at w : ℕ) → at + w ≤ length s → number_at s at w ≡ big_endian s at w
number_within s at w h = rw (le-leb _ _ h)

-- a field that s does not hold whole reads as 0
pub number_beyond : (s : List ℕ) (at w : ℕ) → length s < at + w → number_at s at w ≡ 0
number_beyond s at w h = rw (lt-leb _ _ h)
