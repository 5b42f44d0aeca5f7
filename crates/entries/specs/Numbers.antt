-- The numbers of a section, eight bytes each.
use Rattle.std.specs.Prelude.{ℕ, ◌+◌, ◌*◌, ◌^◌, Bool, List, ltb}
use Rattle.octets.specs.Numbers.{number_at}
use Rattle.sections.specs.declared.Section.{Section}

-- the bytes of a number, and "16 address bytes"
abbrev pub number_size : ℕ
number_size = 8

abbrev pub address_size : ℕ
address_size = 16

-- number k of a section
abbrev pub number_of : List ℕ → Section → ℕ → ℕ
number_of s section k = number_at s (section.start + number_size * k) number_size

-- a number of 32 bits
abbrev pub is_narrow : ℕ → Bool
is_narrow n = ltb n (2 ^ 32)
