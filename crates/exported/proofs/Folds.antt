-- Numbers after numbers, as one number. Assumes nothing.
use Rattle.std.proofs.Common.{◌≡◌, ℕ, List, [], ◌∷◌, ◌++◌, refl}
use Rattle.exported.specs.Folds.{mixed, folded_from}

pub fold_after : (h : ℕ) (xs ys : List ℕ) → folded_from h (xs ++ ys) ≡ folded_from (folded_from h xs) ys
fold_after h [] ys = refl
fold_after h (x ∷ xs) ys = fold_after (mixed h x) xs ys
