-- The words and numbers of a line, each a list of texts.
use Rattle.std.specs.Prelude.{ℕ, List, [], ◌∷◌}
use Prim.Native.Char.{code}
use Prim.Native.String.{String, [] as none, ◌∷◌ as ◌before◌}
use Rattle.octets.specs.Written.{bytes_of}
use Rattle.text.specs.Texts.{hex_of, decimal_of}

-- a text's bytes in ASCII
abbrev pub ascii : String → List ℕ
ascii none = []
ascii (c before text) = code c ∷ ascii text

-- a word by itself
abbrev pub word : String → List (List ℕ)
word text = ascii text ∷ []

-- a word, and a number after it
abbrev pub field : String → ℕ → List (List ℕ)
field text n = ascii text ∷ decimal_of n ∷ []

-- a number of 64 bits in 16 hex digits
abbrev pub hex_number : ℕ → List (List ℕ)
hex_number n = hex_of (bytes_of 8 n) ∷ []
