-- Numbers and bytes as text, in ASCII.
use Rattle.std.specs.Prelude.{ℕ, zero, suc, ◌+◌, ◌/◌, ◌%◌, cond, List, [], ◌∷◌, ◌++◌, ltb, leb, eqb, length}

-- a digit below 16: `0` to `9`, then `a` to `f`
abbrev pub glyph_of : ℕ → ℕ
glyph_of digit = cond (ltb digit 10) (48 + digit) (87 + digit)

-- bytes in hex, two digits each
unfoldable pub hex_of : List ℕ → List ℕ
hex_of [] = []
hex_of (byte ∷ bytes) = glyph_of (byte / 16) ∷ glyph_of (byte % 16) ∷ hex_of bytes

-- the decimal digits of a number, in so many places at most and with no 0 in front: none of the number 0
unfoldable pub digits_of : (places n : ℕ) → List ℕ
digits_of zero n = []
digits_of (suc places) n = cond (eqb n 0) [] (digits_of places (n / 10) ++ (glyph_of (n % 10) ∷ []))

-- a number of 64 bits in decimal: its last digit, and the others before it
unfoldable pub decimal_of : ℕ → List ℕ
decimal_of n = digits_of 19 (n / 10) ++ (glyph_of (n % 10) ∷ [])

-- where the next text goes after one that is written at a place of a buffer; where it does not fit, the place itself
unfoldable pub end_of : (at : ℕ) → (text buffer : List ℕ) → ℕ
end_of at text buffer = cond (leb (at + length text) (length buffer)) (at + length text) at
