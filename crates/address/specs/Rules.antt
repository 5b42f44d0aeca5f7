-- Addresses: 16 bytes, held as two numbers of eight bytes, and which of them are legal.
use Rattle.std.specs.Prelude.{ℕ, ◌+◌, ◌/◌, ◌%◌, ◌^◌, Bool, not, ◌&&◌, ◌||◌, List, leb, eqb}
use Rattle.octets.specs.Numbers.{number_at}
use Rattle.address.specs.declared.Address.{Address}

-- "16 address bytes": the address in those at `at`
abbrev pub address_at : List ℕ → ℕ → Address
address_at s at = record { high = number_at s at 8; low = number_at s (at + 8) 8 }

-- the same 16 bytes
abbrev pub same_address : Address → Address → Bool
same_address a b = eqb a.high b.high && eqb a.low b.low

-- the first of the 16 bytes
abbrev pub first_byte : Address → ℕ
first_byte a = a.high / 2 ^ 56

-- all zero
abbrev pub all_zero : Address → Bool
all_zero a = eqb a.high 0 && eqb a.low 0

-- "IPv4 stands as ::ffff:a.b.c.d"
abbrev pub is_ipv4 : Address → Bool
is_ipv4 a = eqb a.high 0 && eqb (a.low / 2 ^ 32) 0xffff

-- a.b.c.d as one number
abbrev pub ipv4 : Address → ℕ
ipv4 a = a.low % 2 ^ 32

-- its first octet, a
abbrev pub first_octet : Address → ℕ
first_octet a = ipv4 a / 2 ^ 24

-- "IPv4 with a from 224 to 239; 0.0.0.0; 255.255.255.255"
abbrev pub illegal_ipv4 : Address → Bool
illegal_ipv4 a = (leb 224 (first_octet a) && leb (first_octet a) 239) || (eqb (ipv4 a) 0 || eqb (ipv4 a) 0xffffffff)

-- "Not legal: first byte 0xff; all zero;" the IPv4 addresses above. This is the one rule of which addresses are legal
unfoldable pub legal : Address → Bool
legal a = not (eqb (first_byte a) 0xff || (all_zero a || (is_ipv4 a && illegal_ipv4 a)))
