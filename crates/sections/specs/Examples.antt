-- Worked examples, computed from the definitions: records in hex.
use Rattle.std.specs.Prelude.{ℕ, ◌+◌, ◌≡◌, refl, None, Some, List, [], ◌∷◌, ◌++◌, map}
use Rattle.std.specs.Borrow.{Bor}
use Rattle.octets.specs.ExamplesHex.{hex}
use Rattle.octets.specs.Written.{bytes_of}
use Rattle.sections.specs.declared.Section.{Section}
use Rattle.sections.specs.declared.RecordStep.TheVariants.{Whole, Torn, End}
use Rattle.sections.specs.Records.{count_size, size_of, bytes_in, Part, section_step_at, next_of, record_at, record_step_at}
use Rattle.sections.specs.Written.{section_bytes, record_bytes}

-- a record of two bytes, none and one, and the first three bytes of another
abbrev bytes : List ℕ
bytes = hex "0002 0708" ++ (hex "0000" ++ (hex "0001 09" ++ hex "0001 05"))

-- a section by its ends
abbrev from : (start end : ℕ) → Section
from start end = record { start = start; end = end }

-- as it is written: each section after its count, a number of two bytes
written : (record_bytes (7 ∷ 8 ∷ []) [] (9 ∷ []) ++ (0 ∷ 1 ∷ 5 ∷ []) ≡ bytes) × (count_size ≡ 2)
unfolding bytes_of section_bytes record_bytes
written = (refl, refl)

-- a section at each place: it may end with the bytes, and not past them; a count that is cut is 0
cuts : map (section_step_at bytes) (0 ∷ 4 ∷ 6 ∷ 9 ∷ 11 ∷ 12 ∷ [])
    ≡ Some (from 2 4) ∷ Some (from 6 6) ∷ Some (from 8 9) ∷ Some (from 11 12) ∷ None ∷ None ∷ []
unfolding section_step_at
cuts = refl

-- each section after its count; the second record is torn; at the end and past it there is none
steps : (map (record_step_at bytes) (0 ∷ 9 ∷ 11 ∷ 12 ∷ 13 ∷ 1000 ∷ [])
    ≡ Whole (record { numbers = from 2 4; body = from 6 6; nonces = from 8 9 }) ∷ Torn ∷ Torn ∷ End ∷ End ∷ End ∷ [])
    × (next_of (record_at bytes 0) ≡ 9)
unfolding record_step_at
steps = (refl, refl)

-- a record that ends with the bytes is whole, and one byte less tears it
torn : (record_step_at (hex "0001 07 0000 0001 09") 0 ≡ Whole (record { numbers = from 2 3; body = from 5 5; nonces = from 7 8 }))
    × (record_step_at (hex "0001 07 0000 0001") 0 ≡ Torn)
    × (record_step_at (hex "0000 0000 00") 0 ≡ Torn)
unfolding record_step_at
torn = (refl, refl, refl)

-- a count of 256 and more has two bytes
long : size_of (record_at (hex "0102") 0).numbers ≡ 258
long = refl

-- a section's size and bytes, also where it is none that a record has: it ends before it starts, or past the end
abbrev sections : List Section
sections = from 2 4 ∷ from 4 2 ∷ from 11 40 ∷ from 40 41 ∷ []

parts : (map size_of sections ≡ 2 ∷ 0 ∷ 29 ∷ 1 ∷ []) × (map (bytes_in bytes) sections ≡ (7 ∷ 8 ∷ []) ∷ [] ∷ (5 ∷ []) ∷ [] ∷ [])
parts = (refl, refl)

-- a reference to where s points, with these bytes there
abbrev holding : Bor (List ℕ) → List ℕ → Bor (List ℕ)
holding s bytes = record { ref_ptr = s.ref_ptr; now = bytes }

-- the part that is lent: it points into the same memory, at the section's place, and holds its bytes; one that is not there points to its own end,
-- or to the end of the bytes
lent : (s r : Bor (List ℕ)) → Part (holding s bytes) (from 2 4) r → (r.now ≡ 7 ∷ 8 ∷ []) × (r.ref_ptr.0 ≡ s.ref_ptr.0) × (r.ref_ptr.1 ≡ s.ref_ptr.1 + 2)
lent s r part = (part.bytes, part.memory, part.offset)

absent : (s r q : Bor (List ℕ)) → Part (holding s bytes) (from 4 2) r → Part (holding s bytes) (from 40 41) q →
    (r.ref_ptr.1 ≡ s.ref_ptr.1 + 2) × (q.ref_ptr.1 ≡ s.ref_ptr.1 + 12)
absent s r q backward beyond = (backward.offset, beyond.offset)
