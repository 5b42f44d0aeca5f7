-- The list that a record of an announcement holds: four numbers for each entry in its first section, and the entries' addresses in its second.
use Rattle.std.specs.Prelude.{ℕ, zero, suc, ◌+◌, ◌*◌, ◌/◌, Bool, true, false, cond, ◌&&◌, List, [], ◌∷◌, map, ltb, leb, eqb}
use Rattle.address.specs.Rules.{address_at}
use Rattle.announcement.specs.declared.OwnLocator.{OwnLocator}
use Rattle.sections.specs.declared.Record.{Record}
use Rattle.sections.specs.Records.{size_of}
use Rattle.entries.specs.Numbers.{address_size, number_of, is_narrow}

-- how many entries the list has: an address for each
abbrev pub entry_count : Record → ℕ
entry_count r = size_of r.body / address_size

-- which number is the first of entry k: four for each entry, after which call it is and the length of the buffer
abbrev pub entry_place : ℕ → ℕ
entry_place k = 2 + 4 * k

-- entry k is one of the list's, and its numbers are of their widths: locator type, traffic type, lifetime, and P as 1 or 0
unfoldable pub is_entry : List ℕ → Record → ℕ → Bool
is_entry s r k =
    ltb k (entry_count r)
    && (leb (number_of s r.numbers (entry_place k)) 255
    && (leb (number_of s r.numbers (entry_place k + 1)) 255
    && (is_narrow (number_of s r.numbers (entry_place k + 2)) && leb (number_of s r.numbers (entry_place k + 3)) 1)))

-- those before entry `count` all are
unfoldable pub are_entries : List ℕ → Record → (count : ℕ) → Bool
are_entries s r zero = true
are_entries s r (suc k) = is_entry s r k && are_entries s r k

-- what stands in the list where the record has no entry
abbrev pub blank : OwnLocator
blank = record { address = record { high = 0; low = 0 }; lifetime = 0; kind = 0; traffic = 0; preferred = false }

-- entry k
abbrev pub entry_of : List ℕ → Record → ℕ → OwnLocator
entry_of s r k = record {
  address = address_at s (r.body.start + address_size * k);
  lifetime = number_of s r.numbers (entry_place k + 2);
  kind = number_of s r.numbers (entry_place k);
  traffic = number_of s r.numbers (entry_place k + 1);
  preferred = eqb (number_of s r.numbers (entry_place k + 3)) 1;
}

-- entry k, or a blank where the record has none; one that is not of its widths counts as none, and the call is then malformed
unfoldable pub listed_at : List ℕ → Record → ℕ → OwnLocator
listed_at s r k = cond (is_entry s r k) (entry_of s r k) blank

-- the list as the call takes it: its first eight entries, with blanks after them, eight in all
abbrev pub list_of : List ℕ → Record → List OwnLocator
list_of s r = map (listed_at s r) (0 ∷ 1 ∷ 2 ∷ 3 ∷ 4 ∷ 5 ∷ 6 ∷ 7 ∷ [])
