-- Records as they are written, for the examples here and in `trace`.
use Rattle.std.specs.Prelude.{ℕ, zero, suc, List, [], ◌∷◌, ◌++◌}
use Rattle.octets.specs.Written.{bytes_of}
use Rattle.sections.specs.Written.{record_bytes}

-- numbers as they are written
unfoldable pub numbers : List ℕ → List ℕ
numbers [] = []
numbers (n ∷ ns) = bytes_of 8 n ++ numbers ns

-- a record of a call: its numbers, its packet or address, and its nonces
abbrev pub written : (ns body nonces : List ℕ) → List ℕ
written ns body nonces = record_bytes (numbers ns) body nonces

-- an address of 16 bytes, 2001:db8::1
abbrev pub place : List ℕ
place = bytes_of 8 0x20010db800000000 ++ bytes_of 8 1

-- an entry as its numbers: locator type, traffic type, lifetime and P
abbrev pub entry : (kind traffic lifetime mark : ℕ) → List ℕ
entry kind traffic lifetime mark = kind ∷ traffic ∷ lifetime ∷ mark ∷ []

-- n entries of type 0 with P 0
unfoldable pub plain : ℕ → List ℕ
plain zero = []
plain (suc n) = entry 0 1 60 0 ++ plain n

-- an announcement into 256 bytes of these entries, with their addresses, and with the new SPI 0x1002 and KEYMAT Index 7
abbrev pub announcing : (entries addresses : List ℕ) → List ℕ
announcing entries addresses = written (5 ∷ 256 ∷ (entries ++ (0x1002 ∷ 7 ∷ []))) addresses []

-- the addresses 2001:db8::low
unfoldable pub places : (lows : List ℕ) → List ℕ
places [] = []
places (low ∷ lows) = bytes_of 8 0x20010db800000000 ++ (bytes_of 8 low ++ places lows)

abbrev pub nine : List ℕ
nine = 1 ∷ 2 ∷ 3 ∷ 4 ∷ 5 ∷ 6 ∷ 7 ∷ 8 ∷ 9 ∷ []
