-- Loops over a list: one that leaves at the first element that passes a test, and one that maps every element in its place. Assumes nothing.
use Prim.Native.Nat.{ℕ, zero, suc, ◌+◌, ◌≤◌, ◌<◌}
use mathlib.Core.Path.{◌≡◌, refl, ap, ◌∙◌}
use mathlib.Core.Bool.{Bool, true, false, cond}
use mathlib.Core.List.{List, [], ◌∷◌, map}
use lib.ListN.{length, get_or, set, drop, drop_of_length-le}
use lib.Seq.{drop-cons, set-get_or}
use native.Mathlib.Numerals.{add-one}
use native.Mathlib.Omega.{arith}

-- A loop with an early return. What it works out is `over`, a function of an index and the list from there on: `found` of the first index where
-- the element, with those after it, passes the test, or `none` where there is no such index
module _ {A R : Type 0} (over : ℕ → List A → R) (test : A → List A → Bool) (found : ℕ → R) (none : R) where
  -- the loop's turns at j: `whole` is the loop's answer, and b what the code found
  pub record Loop : Type 0 where
    -- the element at j passes
    pub hit : (xs : List A) (n j : ℕ) (d : A) (whole : R) (b : Bool) → length xs ≡ n → j < n → whole ≡ over j (drop j xs) →
        b ≡ test (get_or xs j d) (drop (j + 1) xs) → b ≡ true → found j ≡ whole
    -- it does not, and the elements after it decide
    pub miss : (xs : List A) (n j : ℕ) (d : A) (whole : R) (b : Bool) → length xs ≡ n → j < n → whole ≡ over j (drop j xs) →
        b ≡ test (get_or xs j d) (drop (j + 1) xs) → b ≡ false → whole ≡ over (j + 1) (drop (j + 1) xs)
    -- none is left
    pub end : (xs : List A) (n j : ℕ) (whole : R) → length xs ≡ n → n ≤ j → whole ≡ over j (drop j xs) → none ≡ whole

  pub loop : ((n : ℕ) → over n [] ≡ none) → ((n : ℕ) (x : A) (xs : List A) → over n (x ∷ xs) ≡ cond (test x xs) (found n) (over (n + 1) xs)) → Loop
  loop stops steps = record {
    hit = λ xs n j d whole b e h p q r. rw (p, drop-cons xs j d (omega arith), steps, ← add-one j, ← q, r);
    miss = λ xs n j d whole b e h p q r. p ∙ rw (drop-cons xs j d (omega arith), steps, ← add-one j, ← q, r);
    end = λ xs n j whole e h p. rw (p, drop_of_length-le xs {i = j} (omega arith), stops);
  }

module _ {A : Type 0} (f : A → A) where
  -- the first n elements by f, the others as they are
  abbrev pub map_first : ℕ → List A → List A
  map_first zero xs = xs
  map_first (suc n) [] = []
  map_first (suc n) (x ∷ xs) = f x ∷ map_first n xs

  map_first_more : (n : ℕ) (xs : List A) (d : A) → set (map_first n xs) n (f (get_or (map_first n xs) n d)) ≡ map_first (suc n) xs
  map_first_more zero [] d = refl
  map_first_more zero (x ∷ xs) d = refl
  map_first_more (suc n) [] d = refl
  map_first_more (suc n) (x ∷ xs) d = ap (λ (l : List A). f x ∷ l) (map_first_more n xs d)

  map_first_all : (n : ℕ) (xs : List A) → length xs ≤ n → map_first n xs ≡ map f xs
  map_first_all zero [] h = refl
  map_first_all zero (x ∷ xs) h = absurd (omega arith)
  map_first_all (suc n) [] h = refl
  map_first_all (suc n) (x ∷ xs) h = ap (λ (l : List A). f x ∷ l) (map_first_all n xs (omega arith))

  -- s is xs after n turns of a loop that stores f of each element in its place
  pub record Mapped (n : ℕ) (xs s : List A) : Type 0 where
    pub is : s ≡ map_first n xs

  pub mapped_none : {xs : List A} → Mapped 0 xs xs
  mapped_none = record { is = refl }

  pub mapped_more : {n : ℕ} {xs s : List A} {y : A} (d : A) → Mapped n xs s → y ≡ f (get_or s n d) → Mapped (n + 1) xs (set s n y)
  mapped_more {n} {xs} d p q = record { is = rw (q, p.is, add-one n) (map_first_more n xs d) }

  -- an element that f leaves as it is need not be stored
  pub mapped_kept : {n : ℕ} {xs s : List A} (d : A) → Mapped n xs s → get_or s n d ≡ f (get_or s n d) → Mapped (n + 1) xs s
  mapped_kept {n} {xs} {s} d p q = rw (set-get_or s n d) at (mapped_more d p q)

  -- the element whose turn it is, is as it was
  map_first_next : (n : ℕ) (xs : List A) (d : A) → get_or (map_first n xs) n d ≡ get_or xs n d
  map_first_next zero xs d = refl
  map_first_next (suc n) [] d = refl
  map_first_next (suc n) (x ∷ xs) d = map_first_next n xs d

  pub mapped_next : {n : ℕ} {xs s : List A} (d : A) → Mapped n xs s → get_or s n d ≡ get_or xs n d
  mapped_next {n} {xs} d p = ap (λ (l : List A). get_or l n d) p.is ∙ map_first_next n xs d

  pub mapped_all : {n : ℕ} {xs s : List A} → Mapped n xs s → length xs ≤ n → s ≡ map f xs
  mapped_all {n} {xs} p h = p.is ∙ map_first_all n xs h
