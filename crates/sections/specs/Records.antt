-- A run of records. Each is three sections, one after another, and each section stands after its count of bytes, a number of 16 bits.
use Rattle.std.specs.Prelude.{ℕ, ◌+◌, ◌-◌, min, ◌≡◌, cond, Option, None, Some, List, ltb, leb, length, take, drop}
use Rattle.std.specs.Borrow.{Bor}
use Rattle.octets.specs.Numbers.{number_at}
use Rattle.sections.specs.declared.Section.{Section}
use Rattle.sections.specs.declared.Record.{Record}
use Rattle.sections.specs.declared.RecordStep.{RecordStep}
use Rattle.sections.specs.declared.RecordStep.TheVariants.{Whole, Torn, End}

-- the bytes of a count
abbrev pub count_size : ℕ
count_size = 2

-- how many bytes a section has
abbrev pub size_of : Section → ℕ
size_of section = section.end - section.start

-- the bytes of s in a section
abbrev pub bytes_in : List ℕ → Section → List ℕ
bytes_in s section = take (size_of section) (drop section.start s)

-- r is s's own part in a section, as far as s has it: it points into the memory of s, at that place, and holds the bytes there
pub record Part (s : Bor (List ℕ)) (section : Section) (r : Bor (List ℕ)) : Type 0 where
  pub memory : r.ref_ptr.0 ≡ s.ref_ptr.0
  pub offset : r.ref_ptr.1 ≡ s.ref_ptr.1 + min section.start (min section.end (length s.now))
  pub bytes : r.now ≡ bytes_in s.now section

-- the section whose count stands at `at`
abbrev pub section_at : List ℕ → ℕ → Section
section_at s at = record { start = at + count_size; end = at + count_size + number_at s at count_size }

-- the section at `at`, where the bytes do not end before it does
unfoldable pub section_step_at : List ℕ → ℕ → Option Section
section_step_at s at = cond (ltb (length s) (section_at s at).end) None (Some (section_at s at))

-- the record at `at`: three sections, each where the one before it ends
abbrev pub record_at : List ℕ → ℕ → Record
record_at s at = record {
  numbers = section_at s at;
  body = section_at s (section_at s at).end;
  nonces = section_at s (section_at s (section_at s at).end).end;
}

-- where the record after this one starts
abbrev pub next_of : Record → ℕ
next_of r = r.nonces.end

-- what stands at `at`: at the end of the bytes or past it the end, a record that they end within, or a whole one
unfoldable pub record_step_at : List ℕ → ℕ → RecordStep
record_step_at s at = cond (leb (length s) at) End (cond (ltb (length s) (next_of (record_at s at))) Torn (Whole (record_at s at)))
