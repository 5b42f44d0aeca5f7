-- "Numbers are big-endian."
use Rattle.std.specs.Prelude.{ℕ, zero, suc, ◌+◌, ◌*◌, cond, List, leb, length, get_or}

-- the big-endian number in the w bytes of s at `at`
abbrev pub big_endian : List ℕ → (at w : ℕ) → ℕ
big_endian s at zero = 0
big_endian s at (suc zero) = get_or s at 0
big_endian s at (suc (suc w)) = 256 * big_endian s at (suc w) + get_or s (at + suc w) 0

-- the number in the field of w bytes at `at`; 0 where s ends before the field does
abbrev pub number_at : List ℕ → (at w : ℕ) → ℕ
number_at s at w = cond (leb (at + w) (length s)) (big_endian s at w) 0
