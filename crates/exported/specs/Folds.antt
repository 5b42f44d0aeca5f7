-- Numbers as one number.
use Rattle.std.specs.Prelude.{ℕ, ◌+◌, ◌*◌, ◌%◌, ◌^◌, List}
use Rattle.std.specs.List.{fold}

-- a running number after one more: five times it and the new one, in 64 bits
unfoldable pub mixed : ℕ → ℕ → ℕ
mixed h x = (5 * h + x) % 2 ^ 64

-- a running number after more numbers, in their order
abbrev pub folded_from : ℕ → List ℕ → ℕ
folded_from h xs = fold mixed h xs

-- numbers as one
abbrev pub folded : List ℕ → ℕ
folded xs = folded_from 0 xs
