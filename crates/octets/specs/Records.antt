-- A run of records that stand one after another in bytes: said once, for parameters and for locators.
use Rattle.std.specs.Prelude.{ℕ, zero, suc, cond, List, [], ◌∷◌, ltb}

module _ {A : Type 0} (read : ℕ → A) (next : A → ℕ) (end : ℕ) where
  -- the records from `at` up to `end`, each starting where the one before it says; the last may run past the end.
  -- Each takes a byte or more, so as many steps as there are bytes suffice
  unfoldable pub records : (steps at : ℕ) → List A
  records zero at = []
  records (suc steps) at = let more = read at ∷ records steps (next (read at)) in cond (ltb at end) more []
