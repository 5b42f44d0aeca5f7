-- Worked examples, computed from the definitions.
use Rattle.std.specs.Prelude.{ℕ, zero, suc, ◌+◌, ◌≡◌, refl, true, false, [], ◌∷◌, map, eqb}
use Rattle.std.proofs.Common.{arith}
use Rattle.octets.specs.ExamplesHex.{hex}
use Rattle.octets.specs.Numbers.{big_endian, number_at}
use Rattle.octets.specs.Records.{records}
use Rattle.std.specs.List.{list_any}
use Rattle.octets.specs.Written.{bytes_of, joined, Octets}

-- every digit, and spaces between them
digits : (hex "0123456789abcdef" ≡ 0x01 ∷ 0x23 ∷ 0x45 ∷ 0x67 ∷ 0x89 ∷ 0xab ∷ 0xcd ∷ 0xef ∷ []) × (hex "0041000c 0 1 " ≡ 0 ∷ 65 ∷ 0 ∷ 12 ∷ 1 ∷ [])
digits = (refl, refl)

-- "Numbers are big-endian.": the numbers of 0 to 4 bytes from the second on, and a byte that is not there counts 0
numbers : (map (big_endian (hex "a1b2c3d4e5") 1) (0 ∷ 1 ∷ 2 ∷ 3 ∷ 4 ∷ []) ≡ 0 ∷ 0xb2 ∷ 0xb2c3 ∷ 0xb2c3d4 ∷ 0xb2c3d4e5 ∷ [])
    × (map (big_endian (hex "a1b2") 1) (1 ∷ 2 ∷ 3 ∷ []) ≡ 0xb2 ∷ 0xb200 ∷ 0xb20000 ∷ [])
    × (big_endian (hex "a1b2") 2 1 ≡ 0)
numbers = (refl, refl, refl)

-- a field that ends with the bytes is read, and one that ends past them is 0
fields : map (λ (at : ℕ). number_at (hex "a1b2c3d4") at 2) (0 ∷ 1 ∷ 2 ∷ 3 ∷ 4 ∷ []) ≡ 0xa1b2 ∷ 0xb2c3 ∷ 0xc3d4 ∷ 0 ∷ 0 ∷ []
fields = refl

-- numbers as they are written: the last so many bytes
written : (map (λ (w : ℕ). bytes_of w 0x0a0b0c0d) (0 ∷ 1 ∷ 2 ∷ 4 ∷ 5 ∷ []) ≡ [] ∷ hex "0d" ∷ hex "0c0d" ∷ hex "0a0b0c0d" ∷ hex "000a0b0c0d" ∷ [])
unfolding bytes_of
written = refl

-- in their order, and the empty ones too
one_after_another : joined (hex "0a0b" ∷ [] ∷ hex "0c" ∷ []) ≡ hex "0a0b0c"
one_after_another = refl

-- records of two bytes each: the last may run past the end, none starts at the end, and there are at most so many as steps
runs : map (λ (end : ℕ). records (λ (at : ℕ). at) (λ (at : ℕ). at + 2) end 9 1) (0 ∷ 1 ∷ 2 ∷ 5 ∷ 6 ∷ [])
    ≡ [] ∷ [] ∷ (1 ∷ []) ∷ (1 ∷ 3 ∷ []) ∷ (1 ∷ 3 ∷ 5 ∷ []) ∷ []
unfolding records
runs = refl

steps : map (λ (n : ℕ). records (λ (at : ℕ). at) (λ (at : ℕ). at + 2) 9 n 1) (0 ∷ 1 ∷ 2 ∷ []) ≡ [] ∷ (1 ∷ []) ∷ (1 ∷ 3 ∷ []) ∷ []
unfolding records
steps = refl

-- whether 3 is among them: of none, alone, first, last, not
among : map (list_any (eqb 3)) ([] ∷ (3 ∷ []) ∷ (3 ∷ 4 ∷ []) ∷ (4 ∷ 3 ∷ []) ∷ (2 ∷ 4 ∷ []) ∷ []) ≡ false ∷ true ∷ true ∷ true ∷ false ∷ []
among = refl

-- each number of s is that of a byte: 255 is, and 256 is not
last_byte : Octets (255 ∷ [])
last_byte zero = omega arith
last_byte (suc i) = omega arith

past_a_byte : Octets (0 ∷ 256 ∷ []) → ⊥
past_a_byte all = let wide = all 1 in omega arith
