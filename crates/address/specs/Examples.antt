-- Worked examples, computed from the definitions: an address in bytes, equal addresses, and the addresses at each edge of the rule.
use Rattle.std.specs.Prelude.{ℕ, ◌≡◌, refl, Bool, true, false, List, [], ◌∷◌, map, length, replicate}
use Prim.Native.String.{String}
use Rattle.octets.specs.ExamplesHex.{hex}
use Rattle.address.specs.Rules.{address_at, same_address, legal}
use Rattle.address.specs.declared.Address.{Address}

-- "16 address bytes": the first eight and the last eight, also where others stand before and after them
bytes : address_at (hex "ff 20010db8 01020304 05060708 090a0b0c ff") 1 ≡ record { high = 0x20010db801020304; low = 0x05060708090a0b0c }
bytes = refl

-- an address by its halves
abbrev halves : (high low : ℕ) → Address
halves high low = record { high = high; low = low }

-- the same 16 bytes; one half below or above, or the halves the other way round, is another address
same : map (same_address (halves 5 7)) (halves 5 7 ∷ halves 4 7 ∷ halves 6 7 ∷ halves 5 6 ∷ halves 5 8 ∷ halves 7 5 ∷ halves 7 7 ∷ halves 5 5 ∷ [])
    ≡ true ∷ replicate 7 false
same = refl

-- an address by its 16 bytes
abbrev address : String → Address
address digits = address_at (hex digits) 0

-- "Not legal: first byte 0xff; all zero; IPv4 with a from 224 to 239; 0.0.0.0; 255.255.255.255.": the ends of each range
abbrev illegal : List Address
illegal =
    address "ff000000 00000000 00000000 00000000"
    ∷ address "ff020000 00000000 00000000 00000001"
    ∷ address "ffffffff ffffffff ffffffff ffffffff"
    ∷ address "00000000 00000000 00000000 00000000"
    ∷ address "00000000 00000000 0000ffff e0000000"
    ∷ address "00000000 00000000 0000ffff e4010203"
    ∷ address "00000000 00000000 0000ffff efffffff"
    ∷ address "00000000 00000000 0000ffff 00000000"
    ∷ address "00000000 00000000 0000ffff ffffffff"
    ∷ []

-- the address before and the one after each of those ranges
abbrev neighbours : List Address
neighbours =
    address "feffffff ffffffff ffffffff ffffffff"
    ∷ address "00000000 00000000 00000000 00000001"
    ∷ address "00000000 00000000 0000ffff dfffffff"
    ∷ address "00000000 00000000 0000ffff f0000000"
    ∷ address "00000000 00000000 0000fffe ffffffff"
    ∷ address "00000000 00000000 0000ffff 00000001"
    ∷ address "00000000 00000000 0000ffff fffffffe"
    ∷ address "00000000 00000000 00010000 00000000"
    ∷ []

-- an illegal IPv4 address by its last four bytes, and no IPv4 address by the twelve before them
abbrev others : List Address
others =
    address "00000000 00000000 0000fffe e0000000"
    ∷ address "00000000 00000000 00010000 e0000000"
    ∷ address "00000000 00000000 0001ffff e0000000"
    ∷ address "00000000 00000001 0000ffff e0000000"
    ∷ address "20010db8 00000000 0000ffff 00000000"
    ∷ address "20010db8 00000000 00000000 00000000"
    ∷ []

-- addresses of no illegal range that a reader may ask about: 2001:db8::1, fe80::1, ::1, 10.0.0.1, 127.0.0.1, 192.168.0.1
abbrev common : List Address
common =
    address "20010db8 00000000 00000000 00000001"
    ∷ address "fe800000 00000000 00000000 00000001"
    ∷ address "00000000 00000000 00000000 00000001"
    ∷ address "00000000 00000000 0000ffff 0a000001"
    ∷ address "00000000 00000000 0000ffff 7f000001"
    ∷ address "00000000 00000000 0000ffff c0a80001"
    ∷ []

-- each is judged as its list says
abbrev all : Bool → List Address → Type 0
all verdict addresses = map legal addresses ≡ replicate (length addresses) verdict

judged : all false illegal × all true neighbours × all true others × all true common
unfolding legal
judged = (refl, refl, refl, refl)
