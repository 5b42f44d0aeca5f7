-- Worked examples, computed from the definitions: each condition of refusal 6, and what an accepted set answers.
use Rattle.std.specs.Prelude.{ℕ, ◌≡◌, refl, Bool, true, false, List, [], ◌∷◌, ◌++◌, Ok, Err, map, replicate}
use Rattle.refusal.specs.Table.{refusal}
use Rattle.octets.specs.ExamplesHex.{hex}
use Rattle.octets.specs.Records.{records}
use Rattle.std.specs.List.{list_any}
use Rattle.address.specs.declared.Address.{Address}
use Rattle.address.specs.Rules.{same_address, legal}
use Rattle.locator.specs.Locators.{ill_form}
use Rattle.locator.specs.declared.ListedLocator.{ListedLocator}
use Rattle.locator_set.specs.Sets.{twice, marks, refusal6, blank, blanks, set_of}
use Rattle.locator_set.specs.Buckets.{bucket_of, unused}

-- a locator of 2001:db8::n for both kinds of traffic and 60 seconds, with P or without it (1 or 0)
abbrev locator : (n p : ℕ) → List ℕ
locator n p = 0 ∷ 0 ∷ 4 ∷ p ∷ hex "0000003c 20010db8 00000000 00000000 000000" ++ (n ∷ [])

-- what it says
abbrev entry : (n : ℕ) → (preferred : Bool) → ListedLocator
entry n preferred = record {
  address = record { high = 0x20010db800000000; low = n };
  lifetime = 60;
  spi = 0;
  traffic = 0;
  kind = 0;
  preferred = preferred;
}

-- an address by its halves
abbrev address : (high low : ℕ) → Address
address high low = record { high = high; low = low }

-- locators without P of these addresses, one after another
abbrev all : List ℕ → List ℕ
all [] = []
all (n ∷ ns) = locator n 0 ++ all ns

-- what stands where no locator does
abbrev pub nothing : ListedLocator
nothing = record {
  address = record { high = 0; low = 0 };
  lifetime = 0;
  spi = 0;
  traffic = 0;
  kind = 0;
  preferred = false;
}

-- eight of these
unlisted : (blank ≡ nothing) × (blanks ≡ replicate 8 nothing)
unlisted = (refl, refl)

-- "set empty, over 8, not filled exactly, unknown traffic or locator type, wrong length, lifetime 0, address not legal, an address twice, P twice"
refused_sets : map refusal6
    ([]
    ∷ all (1 ∷ 2 ∷ 3 ∷ 4 ∷ 5 ∷ 6 ∷ 7 ∷ 8 ∷ 9 ∷ [])
    ∷ (locator 1 0 ++ (0 ∷ []))
    ∷ hex "00000400 0000003c 20010db8 00000000 00000000 000000"
    ∷ hex "03000400 0000003c 20010db8 00000000 00000000 00000001"
    ∷ (locator 1 0 ++ hex "00000400 00000000 20010db8 00000000 00000000 00000002")
    ∷ (locator 1 0 ++ hex "00000400 0000003c 00000000 00000000 0000ffff e0000001")
    ∷ all (1 ∷ 1 ∷ [])
    ∷ all (1 ∷ 2 ∷ 1 ∷ [])
    ∷ all (1 ∷ 2 ∷ 3 ∷ 2 ∷ [])
    ∷ (locator 1 1 ++ locator 2 1)
    ∷ (locator 1 1 ++ (locator 2 0 ++ locator 3 1))
    ∷ [])
    ≡ replicate 12 true
unfolding records legal ill_form twice marks
refused_sets = refl

-- "1 to 8 locators in a set", at most one of them with P
accepted_sets : map refusal6
    (locator 1 0
    ∷ locator 1 1
    ∷ (locator 1 0 ++ locator 2 1)
    ∷ all (1 ∷ 2 ∷ 3 ∷ 4 ∷ 5 ∷ 6 ∷ 7 ∷ 8 ∷ [])
    ∷ [])
    ≡ replicate 4 false
unfolding records legal ill_form twice marks
accepted_sets = refl

-- how many have P, and whether an address occurs before it
counted : (marks (locator 1 1 ++ (locator 2 0 ++ locator 3 1)) 5 (0 ∷ 24 ∷ 48 ∷ []) ≡ 7)
    × (twice (all (1 ∷ 2 ∷ [])) [] (0 ∷ 24 ∷ []) ≡ false)
    × (twice (all (1 ∷ 2 ∷ [])) (record { high = 0x20010db800000000; low = 2 } ∷ []) (0 ∷ 24 ∷ []) ≡ true)
unfolding marks twice
counted = (refl, refl, refl)

-- the bucket of an address is by the low bits of both halves; of 3 and 4 it is the same as of 2 and 5 and another than of 3 and 5
buckets : (map bucket_of (address 0 0 ∷ address 3 4 ∷ address 2 5 ∷ address 3 5 ∷ address 64 63 ∷ address 63 63 ∷ []) ≡ 0 ∷ 7 ∷ 7 ∷ 8 ∷ 63 ∷ 62 ∷ [])
    × (map (unused (false ∷ true ∷ [])) (address 0 0 ∷ address 0 1 ∷ address 1 0 ∷ address 1 1 ∷ []) ≡ true ∷ false ∷ false ∷ true ∷ [])
buckets = (refl, refl)

-- whether two listed locators have an address
held : map (λ (a : Address). list_any (λ (l : ListedLocator). same_address a l.address) (entry 5 false ∷ entry 4 true ∷ []))
    (address 0x20010db800000000 4 ∷ address 0x20010db800000000 5 ∷ address 0x20010db800000000 6 ∷ [])
    ≡ true ∷ true ∷ false ∷ []
held = refl

-- the whole answer: a set of three, in listed order, one of eight, and a refused one
answers : (set_of (locator 5 0 ++ (locator 4 1 ++ locator 6 0))
    ≡ Ok (record { listed = entry 5 false ∷ entry 4 true ∷ entry 6 false ∷ replicate 5 nothing; count = 3 }))
    × (set_of (all (8 ∷ 7 ∷ 6 ∷ 5 ∷ 4 ∷ 3 ∷ 2 ∷ 1 ∷ []))
    ≡ Ok (record { listed = map (λ (n : ℕ). entry n false) (8 ∷ 7 ∷ 6 ∷ 5 ∷ 4 ∷ 3 ∷ 2 ∷ 1 ∷ []); count = 8 }))
    × (set_of (all (1 ∷ 1 ∷ [])) ≡ Err (refusal 6))
unfolding set_of records legal ill_form twice marks
answers = (refl, refl, refl)
