-- Worked examples, computed from the definitions: locators in hex, as RFC 8046 lays them out, and each condition that a locator by itself breaks.
use Rattle.std.specs.Prelude.{ℕ, ◌≡◌, refl, true, false, List, [], ◌∷◌, ◌++◌, Ok, Err, map, replicate}
use Prim.Native.String.{String}
use Rattle.refusal.specs.Table.{refusal}
use Rattle.octets.specs.ExamplesHex.{hex}
use Rattle.octets.specs.Records.{records}
use Rattle.address.specs.Rules.{legal}
use Rattle.locator.specs.declared.ListedLocator.{ListedLocator}
use Rattle.locator.specs.Locators.{traffic_at, kind_at, units_at, preferred_at, places, ill_form, illegal_at, locator_step_at}

-- a set of two. Type 0: both kinds of traffic, length 4, P, 60 seconds, 2001:db8::1. Type 1: signalling, length 5, every reserved bit and not P, 300
-- seconds, SPI 0x1002, 2001:db8::2
abbrev two : List ℕ
two =
    hex "00000401 0000003c 20010db8 00000000 00000000 00000001"
    ++ hex "010105fe 0000012c 00001002 20010db8 00000000 00000000 00000002"

abbrev first : ListedLocator
first = record {
  address = record { high = 0x20010db800000000; low = 1 };
  lifetime = 60;
  spi = 0;
  traffic = 0;
  kind = 0;
  preferred = true;
}

abbrev second : ListedLocator
second = record {
  address = record { high = 0x20010db800000000; low = 2 };
  lifetime = 300;
  spi = 0x1002;
  traffic = 1;
  kind = 1;
  preferred = false;
}

-- where they start, what each says, and where the next would start
read : (places two ≡ 0 ∷ 24 ∷ []) × (map (locator_step_at two) (0 ∷ 24 ∷ []) ≡ Ok (first, 24) ∷ Ok (second, 52) ∷ [])
unfolding records ill_form legal
read = (refl, refl)

-- a place past the end, and a set without bytes; a byte that is not there counts 0
none : (places [] ≡ [])
    × (locator_step_at two 52 ≡ Err (refusal 6))
    × (traffic_at [] 0 ∷ kind_at [] 0 ∷ units_at [] 0 ∷ [] ≡ 0 ∷ 0 ∷ 0 ∷ [])
    × (preferred_at [] 0 ≡ false)
unfolding records ill_form legal
none = (refl, refl, refl, refl)

-- a locator's first eight bytes, before an SPI and 2001:db8::1 or before the address alone
abbrev of_type_0 : String → List ℕ
of_type_0 head = hex head ++ hex "20010db8 00000000 00000000 00000001"

abbrev of_type_1 : String → List ℕ
of_type_1 head = hex head ++ hex "00001002 20010db8 00000000 00000000 00000001"

-- "traffic type (0 both, 1 signalling, 2 data)", "Type 0 has length 4", "Type 1 has length 5", "Lifetime is 1 or more; no value means forever"
well_formed_lem : map (λ (s : List ℕ). illegal_at s 0)
    (of_type_0 "00000400 00000001"
    ∷ of_type_0 "01000400 0000003c"
    ∷ of_type_0 "02000400 ffffffff"
    ∷ of_type_1 "00010500 0000003c"
    ∷ [])
    ≡ replicate 4 false
unfolding ill_form legal
well_formed_lem = refl

-- "unknown traffic or locator type, wrong length, lifetime 0": each wrong in one thing, with the bytes that its length calls for
ill_formed_lem : map (λ (s : List ℕ). ill_form s 0)
    (of_type_0 "03000400 0000003c"
    ∷ of_type_0 "ff000400 0000003c"
    ∷ of_type_0 "00020600 0000003c 00000000 00000000"
    ∷ of_type_0 "00000300 0000003c"
    ∷ of_type_0 "00000500 0000003c 00000000"
    ∷ of_type_1 "00010400 0000003c"
    ∷ of_type_1 "00010600 0000003c 00000000"
    ∷ of_type_0 "00000400 00000000"
    ∷ [])
    ≡ replicate 8 true
unfolding ill_form
ill_formed_lem = refl

-- a locator that runs past the set's end by a byte; and "address not legal", ff02::1
past_the_end : (ill_form (hex "00000400 0000003c 20010db8 00000000 00000000 000000") 0 ≡ true)
    × (map (ill_form (hex "00000400 0000003c ff020000 00000000 00000000 00000001")) (0 ∷ []) ≡ false ∷ [])
    × (map (illegal_at (hex "00000400 0000003c ff020000 00000000 00000000 00000001")) (0 ∷ []) ≡ true ∷ [])
unfolding ill_form legal
past_the_end = (refl, refl, refl)
