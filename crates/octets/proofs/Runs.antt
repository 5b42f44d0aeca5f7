-- Laws of a run of records. Assumes nothing.
use Prim.Native.Nat.{ℕ, zero, suc, ◌-◌, ◌<◌, ◌≤◌}
use mathlib.Core.Path.{◌≡◌, refl}
use mathlib.Core.List.{[], ◌∷◌}
use native.Mathlib.Omega.{arith}
use borrow.Author.Tests.{lt-ltb, le-ltb}
use Rattle.octets.specs.Records.{records}

module _ {A : Type 0} (read : ℕ → A) (next : A → ℕ) (end : ℕ) where
  -- a run that has not ended: its first record, and the others
  pub records_more : (steps at : ℕ) → at < end → end - at ≤ steps
      → records read next end steps at ≡ read at ∷ records read next end (steps - 1) (next (read at))
  unfolding records
  records_more zero at h e = absurd (omega arith)
  records_more (suc steps) at h e = let one : suc steps - 1 ≡ steps = omega arith in rw (lt-ltb _ _ h, one)

  -- a run that has ended
  pub records_none : (steps at : ℕ) → end ≤ at → records read next end steps at ≡ []
  unfolding records
  records_none zero at h = refl
  records_none (suc steps) at h = rw (le-ltb _ _ h)
