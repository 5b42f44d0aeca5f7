-- Numbers of 2^k bytes by their halves, and a worked example of them. Octets read its numbers so before it read them by `from_be_bytes`: no code cites this.
-- Assumes nothing.
use Rattle.std.specs.Prelude.{ℕ, zero, suc, ◌+◌, ◌*◌, ◌/◌, ◌%◌, ◌≡◌, refl, List, [], ◌∷◌, map}
use mathlib.Core.Path.{ap}
use lib.ListN.{get_or}
use native.Mathlib.Omega.{arith}
use Rattle.octets.specs.Numbers.{big_endian}

-- what the upper half of 2^(k + 1) bytes weighs: 256, 65536, ..
abbrev pub weight : (k : ℕ) → ℕ
weight zero = 256
weight (suc k) = weight k * weight k

-- the number of 2^k bytes with its bytes in the other order
abbrev pub swapped : (k x : ℕ) → ℕ
swapped zero x = x
swapped (suc k) x = swapped k (x % weight k) * weight k + swapped k (x / weight k)

-- numbers of one byte, two, four and eight with their bytes in the other order, and what their halves weigh
pub swaps : (swapped 0 0xa1 ∷ swapped 1 0xa1b2 ∷ swapped 2 0xa1b2c3d4 ∷ swapped 3 0xa1b2c3d4e5f60718 ∷ [] ≡ 0xa1 ∷ 0xb2a1 ∷ 0xd4c3b2a1 ∷ 0x1807f6e5d4c3b2a1 ∷ [])
    × (map weight (0 ∷ 1 ∷ 2 ∷ []) ≡ 256 ∷ 65536 ∷ 4294967296 ∷ [])
swaps = (refl, refl)

-- the byte so many places on from a place
place : (s : List ℕ) (at i j k : ℕ) → i + j ≡ k → get_or s (at + i + j) 0 ≡ get_or s (at + k) 0
place s at i j k h = ap (λ (x : ℕ). get_or s x 0) (omega (arith, h))

-- four bytes, and eight, are their halves
pub whole_4 : (s : List ℕ) (at : ℕ) → big_endian s at 2 * 65536 + big_endian s (at + 2) 2 ≡ big_endian s at 4
whole_4 s at = omega (arith, place s at 2 1 3 refl)

pub whole_8 : (s : List ℕ) (at : ℕ) → big_endian s at 4 * 4294967296 + big_endian s (at + 4) 4 ≡ big_endian s at 8
whole_8 s at = omega (arith, place s at 4 1 5 refl, place s at 4 2 6 refl, place s at 4 3 7 refl)
