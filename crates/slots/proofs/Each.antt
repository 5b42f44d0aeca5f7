-- What holds of every element of a list, and of every element with each one after it. Assumes nothing.
use mathlib.Core.Path.{◌≡◌, refl}
use mathlib.Core.Bool.{Bool, false}
use mathlib.Core.List.{List, [], ◌∷◌, map}
use Prim.Native.Nat.{ℕ, zero, suc}
use lib.ListN.{set}
use Rattle.boolean.proofs.Laws.{or_false_left, or_false_right}
use Rattle.std.specs.List.{list_any}

unfoldable pub All : {A : Type 0} → (A → Type 0) → List A → Type 0
All holds [] = Unit {0}
All holds (x ∷ xs) = holds x × All holds xs

unfoldable pub Pairs : {A : Type 0} → (A → A → Type 0) → List A → Type 0
Pairs related [] = Unit {0}
Pairs related (x ∷ xs) = All (related x) xs × Pairs related xs

module _ {A : Type 0} where
  -- no element passes a test exactly where every element fails it
  pub none_all : (test : A → Bool) (xs : List A) → list_any test xs ≡ false → All (λ x. test x ≡ false) xs
  unfolding All
  none_all test [] p = tt
  none_all test (x ∷ xs) p = (or_false_left (test x) (list_any test xs) p, none_all test xs (or_false_right (test x) (list_any test xs) p))

  pub all_none : (test : A → Bool) (xs : List A) → All (λ x. test x ≡ false) xs → list_any test xs ≡ false
  unfolding All
  all_none test [] p = refl
  all_none test (x ∷ xs) p = rw p.0 (all_none test xs p.1)

  -- what every element has, and what follows from it
  pub all_map : {B : Type 0} (P : A → Type 0) (Q : B → Type 0) (f : A → B) → ((x : A) → P x → Q (f x)) → (xs : List A) → All P xs → All Q (map f xs)
  unfolding All
  all_map P Q f h [] p = tt
  all_map P Q f h (x ∷ xs) p = (h x p.0, all_map P Q f h xs p.1)

  pub all_imply : (P Q : A → Type 0) → ((x : A) → P x → Q x) → (xs : List A) → All P xs → All Q xs
  unfolding All
  all_imply P Q h [] p = tt
  all_imply P Q h (x ∷ xs) p = (h x p.0, all_imply P Q h xs p.1)

  pub all_both : (P Q R : A → Type 0) → ((x : A) → P x → Q x → R x) → (xs : List A) → All P xs → All Q xs → All R xs
  unfolding All
  all_both P Q R h [] p q = tt
  all_both P Q R h (x ∷ xs) p q = (h x p.0 q.0, all_both P Q R h xs p.1 q.1)

  -- an element takes another's place
  pub all_set : (P : A → Type 0) (xs : List A) (n : ℕ) (y : A) → All P xs → P y → All P (set xs n y)
  unfolding All
  all_set P [] n y p q = tt
  all_set P (x ∷ xs) zero y p q = (q, p.1)
  all_set P (x ∷ xs) (suc n) y p q = (p.0, all_set P xs n y p.1 q)

  pub pairs_map : (R S : A → A → Type 0) (f : A → A) → ((x y : A) → R x y → S (f x) (f y)) → (xs : List A) → Pairs R xs → Pairs S (map f xs)
  unfolding Pairs
  pairs_map R S f h [] p = tt
  pairs_map R S f h (x ∷ xs) p = (all_map (R x) (S (f x)) f (h x) xs p.0, pairs_map R S f h xs p.1)

  pub pairs_set : (R : A → A → Type 0) (xs : List A) (n : ℕ) (y : A) → Pairs R xs → All (λ x. R x y) xs → All (R y) xs → Pairs R (set xs n y)
  unfolding Pairs All
  pairs_set R [] n y p q r = tt
  pairs_set R (x ∷ xs) zero y p q r = (r.1, p.1)
  pairs_set R (x ∷ xs) (suc n) y p q r = (all_set (R x) xs n y p.0 q.0, pairs_set R xs n y p.1 q.1 r.1)
