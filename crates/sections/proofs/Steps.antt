-- Records: when one is whole, and what a whole one says of its place. Assumes nothing.
use mathlib.Core.Path.{◌≡◌, sym, ◌∙◌}
use mathlib.Core.List.{List}
use Prim.Native.Nat.{ℕ, ◌<◌, ◌≤◌}
use lib.ListN.{length}
use native.Mathlib.Omega.{arith}
use borrow.Author.Tests.{le-ltb, lt-leb}
use Rattle.std.proofs.lemmas.Bool.Decides.{nat_tests}
use Rattle.sections.specs.declared.Record.{Record}
use Rattle.sections.specs.declared.RecordStep.{RecordStep}
use Rattle.sections.specs.declared.RecordStep.TheVariants.{Whole}
use Rattle.sections.specs.Records.{record_at, next_of, record_step_at}

-- a record that ends within the bytes
pub record_whole : (s : List ℕ) (at : ℕ) → at < length s → next_of (record_at s at) ≤ length s → Whole (record_at s at) ≡ record_step_at s at
unfolding record_step_at
record_whole s at h e = rw (lt-leb _ _ h, le-ltb _ _ e)

-- a whole record starts within the bytes, and the next one starts after it and within them or at their end
pub whole_next : (s : List ℕ) (at : ℕ) {x : RecordStep} {q : Record} → x ≡ record_step_at s at → x ≡ Whole q → (at < next_of q) × (next_of q ≤ length s)
unfolding record_step_at
whole_next s at g e = let h = sym e ∙ g in grind (arith, nat_tests)
