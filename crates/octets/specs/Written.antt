-- Numbers as they are written: "Numbers are big-endian."
use Rattle.std.specs.Prelude.{ℕ, zero, suc, ◌/◌, ◌%◌, ◌^◌, ◌<◌, List, [], ◌∷◌, ◌++◌, get_or}

-- the number in w bytes
unfoldable pub bytes_of : (w number : ℕ) → List ℕ
bytes_of zero number = []
bytes_of (suc w) number = number / 256 ^ w % 256 ∷ bytes_of w number

-- bytes that are written one after another
abbrev pub joined : (parts : List (List ℕ)) → List ℕ
joined [] = []
joined (part ∷ parts) = part ++ joined parts

-- each number of s is that of a byte
abbrev pub Octets : List ℕ → Type 0
Octets s = (i : ℕ) → get_or s i 0 < 256
