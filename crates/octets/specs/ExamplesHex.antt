-- Bytes by their hex digits, as the papers print them: for packets in examples that are copied and not computed.
use Rattle.std.specs.Prelude.{ℕ, ◌+◌, ◌-◌, ◌*◌, cond, List, [], ◌∷◌, ltb, eqb}
use Prim.Native.Char.{code}
use Prim.Native.String.{String, [] as none, ◌∷◌ as ◌before◌}

-- a digit by its code in ASCII: `0` to `9`, then `a` to `f`
abbrev pub digit_of : ℕ → ℕ
digit_of code = cond (ltb code 58) (code - 48) (code - 87)

-- the digits of a text, without the spaces between them
abbrev pub digits_in : String → List ℕ
digits_in none = []
digits_in (c before text) = cond (eqb (code c) 32) (digits_in text) (digit_of (code c) ∷ digits_in text)

-- two digits are a byte
abbrev pub paired : List ℕ → List ℕ
paired [] = []
paired (high ∷ []) = []
paired (high ∷ low ∷ digits) = (16 * high + low) ∷ paired digits

-- the bytes of a text of hex digits
abbrev pub hex : String → List ℕ
hex text = paired (digits_in text)
