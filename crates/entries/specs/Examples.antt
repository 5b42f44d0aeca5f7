-- Worked examples, computed from the definitions: the list of a record.
use Rattle.std.specs.Prelude.{ℕ, suc, ◌≡◌, refl, Bool, true, false, List, [], ◌∷◌, ◌++◌, map, take, replicate}
use Rattle.octets.specs.Written.{bytes_of}
use Rattle.announcement.specs.declared.OwnLocator.{OwnLocator}
use Rattle.sections.specs.Records.{record_at}
use Rattle.sections.specs.Written.{section_bytes, record_bytes}
use Rattle.entries.specs.Numbers.{number_size, address_size, is_narrow}
use Rattle.entries.specs.Entries.{entry_count, is_entry, are_entries, blank, listed_at, list_of}
use Rattle.entries.specs.ExamplesWritten.{numbers, place, entry, plain, announcing, places, nine}

-- the list of a record
abbrev listed : List ℕ → List OwnLocator
listed bytes = list_of bytes (record_at bytes 0)

-- an entry for the address 2001:db8::low
abbrev own : (low lifetime kind traffic : ℕ) → (preferred : Bool) → OwnLocator
own low lifetime kind traffic preferred = record {
  address = record { high = 0x20010db800000000; low = low };
  lifetime = lifetime;
  kind = kind;
  traffic = traffic;
  preferred = preferred;
}

-- one entry and seven blanks; two entries; of nine the first eight; no entry of a record whose one does not fit
lists : listed (announcing (entry 1 2 60 1) place)
    ∷ listed (announcing (entry 1 2 60 1 ++ entry 0 1 30 0) (places (8 ∷ 9 ∷ [])))
    ∷ listed (announcing (plain 9) (places nine))
    ∷ listed (announcing (entry 256 1 60 0) place)
    ∷ []
    ≡ (own 1 60 1 2 true ∷ replicate 7 blank)
    ∷ (own 8 60 1 2 true ∷ own 9 30 0 1 false ∷ replicate 6 blank)
    ∷ map (λ (low : ℕ). own low 60 0 1 false) (take 8 nine)
    ∷ replicate 8 blank
    ∷ []
unfolding bytes_of section_bytes record_bytes numbers plain places is_entry listed_at
lists = refl

-- where there is no entry
no_entry : listed (announcing [] []) ≡ replicate 8 (record { address = record { high = 0; low = 0 }; lifetime = 0; kind = 0; traffic = 0; preferred = false })
unfolding bytes_of section_bytes record_bytes numbers is_entry listed_at
no_entry = refl

-- all entries of a record are judged
abbrev fit : List ℕ → Bool
fit bytes = are_entries bytes (record_at bytes 0) (entry_count (record_at bytes 0))

-- none, nine, and nine of which the first, the fifth or the last has a P over 1
judged : map fit
    (announcing [] []
    ∷ announcing (plain 9) (places nine)
    ∷ announcing (entry 0 1 60 2 ++ plain 8) (places nine)
    ∷ announcing (plain 4 ++ (entry 0 1 60 2 ++ plain 4)) (places nine)
    ∷ announcing (plain 8 ++ entry 0 1 60 2) (places nine)
    ∷ [])
    ≡ true ∷ true ∷ false ∷ false ∷ false ∷ []
unfolding bytes_of section_bytes record_bytes numbers plain places is_entry are_entries
judged = refl

-- the last numbers that fit, and the next one of each: locator type, traffic type, lifetime, P; and numbers past the list's two entries
widths : (map (λ (bytes : List ℕ). is_entry bytes (record_at bytes 0) 0)
    (announcing (entry 255 255 0xffffffff 1) place
    ∷ announcing (entry 256 0 0 0) place
    ∷ announcing (entry 0 256 0 0) place
    ∷ announcing (entry 0 0 0x100000000 0) place
    ∷ announcing (entry 0 0 0 2) place
    ∷ [])
    ≡ true ∷ false ∷ false ∷ false ∷ false ∷ [])
    × (map (λ (k : ℕ). is_entry (announcing (plain 3) (places (8 ∷ 9 ∷ []))) (record_at (announcing (plain 3) (places (8 ∷ 9 ∷ []))) 0) k) (0 ∷ 1 ∷ 2 ∷ [])
    ≡ true ∷ true ∷ false ∷ [])
unfolding bytes_of section_bytes record_bytes numbers plain places is_entry
widths = (refl, refl)

-- the sizes, and the last number of 32 bits
sized : (number_size ∷ address_size ∷ [] ≡ 8 ∷ 16 ∷ []) × (map is_narrow (0xffffffff ∷ suc 0xffffffff ∷ []) ≡ true ∷ false ∷ [])
sized = (refl, refl)
