-- What is written is read back: whatever stands before a record and after it. Assumes nothing.
use Prim.Native.Nat.{ℕ, ◌+◌, ◌-◌, ◌<◌, ◌≤◌}
use mathlib.Core.Path.{◌≡◌, refl, sym, ap, ◌∙◌}
use mathlib.Core.List.{List, ◌++◌, append_assoc}
use lib.ListN.{length, length-append}
use lib.Seq.{take_at, drop_at}
use native.Mathlib.Omega.{arith}
use Rattle.octets.specs.Numbers.{number_at}
use Rattle.octets.specs.Written.{bytes_of}
use Rattle.octets.proofs.ReadBack.{number_read}
use Rattle.octets.proofs.Sizes.{bytes_length}
use Rattle.sections.specs.declared.Section.{Section}
use Rattle.sections.specs.declared.Record.{Record}
use Rattle.sections.specs.declared.RecordStep.TheVariants.{Whole}
use Rattle.sections.specs.Records.{count_size, bytes_in, section_at, record_at, next_of, record_step_at}
use Rattle.sections.specs.Written.{section_bytes, record_bytes}
use Rattle.sections.proofs.Steps.{record_whole}

-- how many bytes a section and a record take
pub section_length : (bytes : List ℕ) → length (section_bytes bytes) ≡ 2 + length bytes
unfolding section_bytes
section_length bytes = simp (length-append, bytes_length)

-- the section with these bytes whose count stands at a place
abbrev placed : (at : ℕ) → List ℕ → Section
placed at bytes = record { start = at + count_size; end = at + count_size + length bytes }

-- ---- one section
module _ (before bytes after : List ℕ) where
  abbrev written : List ℕ
  written = before ++ (section_bytes bytes ++ after)

  -- the count is read back
  counted : length bytes < 65536 → number_at written (length before) count_size ≡ length bytes
  unfolding section_bytes
  counted few =
      let count : List ℕ = bytes_of count_size (length bytes) in
      let parts : before ++ ((count ++ bytes) ++ after) ≡ before ++ (count ++ (bytes ++ after)) = simp append_assoc in
      rw parts (number_read count_size (length bytes) before (bytes ++ after) few)

  -- so is the section
  section_read : length bytes < 65536 → section_at written (length before) ≡ placed (length before) bytes
  section_read few = rw (counted few)

  -- and its bytes
  bytes_read : bytes_in written (placed (length before) bytes) ≡ bytes
  unfolding section_bytes
  bytes_read =
      let count : List ℕ = bytes_of count_size (length bytes) in
      let size : length before + count_size + length bytes - (length before + count_size) ≡ length bytes = omega arith in
      let seam : length (before ++ count) ≡ length before + count_size = simp (length-append, bytes_length) in
      let parts : before ++ ((count ++ bytes) ++ after) ≡ (before ++ count) ++ (bytes ++ after) = simp append_assoc in
      rw (parts, drop_at (before ++ count) (bytes ++ after) (length before + count_size) seam, size) (take_at bytes after (length bytes) refl)

-- ---- a record: where its sections are when it is written at a place
abbrev pub placed_record : (at : ℕ) → (numbers body nonces : List ℕ) → Record
placed_record at numbers body nonces = record {
  numbers = placed at numbers;
  body = placed (placed at numbers).end body;
  nonces = placed (placed (placed at numbers).end body).end nonces;
}

-- a section of s that stands after what is before it, as the place that it is at is written
section_at_lem : (before bytes after s : List ℕ) (at : ℕ) → s ≡ before ++ (section_bytes bytes ++ after) → length before ≡ at → length bytes < 65536
    → (section_at s at ≡ placed at bytes) × (bytes_in s (placed at bytes) ≡ bytes)
section_at_lem before bytes after s at e l few = rw (e, ← l) (section_read before bytes after few, bytes_read before bytes after)

module _ (before numbers body nonces after : List ℕ) where
  -- bytes that hold a record, after any bytes and before any others
  abbrev pub around : List ℕ
  around = before ++ (record_bytes numbers body nonces ++ after)

  module _ (f : length numbers < 65536) (g : length body < 65536) (h : length nonces < 65536) where
    abbrev rest : List ℕ
    rest = section_bytes nonces ++ after

    first : (section_at around (length before) ≡ placed (length before) numbers) × (bytes_in around (placed (length before) numbers) ≡ numbers)
    unfolding record_bytes
    first = section_at_lem before numbers (section_bytes body ++ rest) around (length before) (simp append_assoc) refl f

    second : (section_at around (length before + 2 + length numbers) ≡ placed (length before + 2 + length numbers) body)
        × (bytes_in around (placed (length before + 2 + length numbers) body) ≡ body)
    unfolding record_bytes
    second = section_at_lem (before ++ section_bytes numbers) body rest around _ (simp append_assoc) (simp (length-append, section_length) (omega arith)) g

    third : (section_at around (length before + 2 + length numbers + 2 + length body) ≡ placed (length before + 2 + length numbers + 2 + length body) nonces)
        × (bytes_in around (placed (length before + 2 + length numbers + 2 + length body) nonces) ≡ nonces)
    unfolding record_bytes
    third =
        section_at_lem ((before ++ section_bytes numbers) ++ section_bytes body) nonces after around _ (simp append_assoc)
        (simp (length-append, section_length) (omega arith)) h

    -- it is read whole, each of its sections is the one that was written, and the next record starts after it
    pub read_back : (record_step_at around (length before) ≡ Whole (placed_record (length before) numbers body nonces))
        × ((bytes_in around (placed_record (length before) numbers body nonces).numbers ≡ numbers)
        × ((bytes_in around (placed_record (length before) numbers body nonces).body ≡ body)
        × ((bytes_in around (placed_record (length before) numbers body nonces).nonces ≡ nonces)
        × (next_of (placed_record (length before) numbers body nonces) ≡ length before + length (record_bytes numbers body nonces)))))
    unfolding record_bytes
    read_back =
        let size : length (record_bytes numbers body nonces) ≡ 6 + length numbers + length body + length nonces =
        simp (length-append, section_length) (omega arith) in
        let long : length around ≡ length before + length (record_bytes numbers body nonces) + length after = simp length-append (omega arith) in
        let two = ap (λ (x : Section). section_at around x.end) first.0 ∙ second.0 in
        let three = ap (λ (x : Section). section_at around x.end) two ∙ third.0 in
        let found : record_at around (length before) ≡ placed_record (length before) numbers body nonces = rw (three, two, first.0) in
        let room : next_of (record_at around (length before)) ≤ length around = omega (arith, ap next_of found) in
        (sym (record_whole around (length before) (omega arith) room) ∙ ap Whole found, (first.1, (second.1, (third.1, omega arith))))
