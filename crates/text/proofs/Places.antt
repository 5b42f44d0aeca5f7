-- The digits of a number, from the last one on. Assumes nothing.
use Prim.Native.Nat.{ℕ, zero, suc, ◌-◌, ◌/◌, ◌%◌, ◌^◌, ◌≤◌, ◌<◌}
use mathlib.Core.Path.{◌≡◌, refl}
use mathlib.Core.List.{List, [], ◌∷◌, ◌++◌, append_assoc}
use lib.ListN.{length, take, drop, set}
use lib.Seq.{set_split, drop_at, length-take-le}
use borrow.Author.Tests.{ne_eqb}
use native.Mathlib.Omega.{arith}
use Rattle.text.specs.Texts.{glyph_of, digits_of}

-- the places from one that is set on: what it is set to, and those after it
pub drop_set : (places : List ℕ) (k x : ℕ) → k < length places → drop k (set places k x) ≡ x ∷ drop (suc k) places
drop_set places k x h =
    let l : k ≤ length places = omega arith in
    rw (set_split places k x h) (drop_at (take k places) (x ∷ drop (suc k) places) k (length-take-le k places l))

-- of the number 0 there are none
pub no_digits : (places : ℕ) → digits_of places 0 ≡ []
unfolding digits_of
no_digits zero = refl
no_digits (suc places) = refl

-- one digit more: the last digit of what is left stands before those that are there
pub next_digit : (first rest : ℕ) (places : List ℕ) → 0 < rest → rest < 10 ^ first → first ≤ length places
    → (rest / 10 < 10 ^ (first - 1))
    × (digits_of first rest ++ drop first places ≡ digits_of (first - 1) (rest / 10) ++ drop (first - 1) (set places (first - 1) (glyph_of (rest % 10))))
unfolding digits_of
next_digit zero rest places h b l = absurd (omega arith)
next_digit (suc k) rest places h b l =
    let one : suc k - 1 ≡ k = omega arith in
    let some = ne_eqb rest 0 (λ (e : rest ≡ 0). absurd (omega arith)) in
    (rw one (omega arith), rw (one, some, drop_set places k (glyph_of (rest % 10)) (omega arith)) (append_assoc (digits_of k (rest / 10)) (glyph_of (rest % 10) ∷ []) (drop (suc k) places)))
