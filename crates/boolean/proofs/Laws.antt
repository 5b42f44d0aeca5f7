-- Laws of tests that the library lacks. Assumes nothing.
use mathlib.Core.Path.{◌≡◌, refl, sym}
use Prim.Native.Nat.{ℕ}
use lib.Dec.{eqb}
use native.Mathlib.Omega.{arith}
use borrow.Author.Tests.{eqb-false, ne_eqb}
use mathlib.Core.Bool.{Bool, true, false, cond, ◌&&◌, ◌||◌}

-- the two answers differ
pub apart : {A : Type 0} → true ≡ false → A
apart e = let z : ◌≡◌ {A = ℕ} 0 1 = cc in absurd (omega arith)

-- one test of two decides where the other is known
pub and_true : (b : Bool) → (b && true) ≡ b
and_true true = refl
and_true false = refl

pub and_false : (b : Bool) → (b && false) ≡ false
and_false true = refl
and_false false = refl

pub or_true : (a b : Bool) → b ≡ true → (a || b) ≡ true
or_true true b e = refl
or_true false b e = e

-- two numbers that are not equal are not equal the other way round
pub eqb_turned : (m n : ℕ) → eqb m n ≡ false → eqb n m ≡ false
eqb_turned m n p = ne_eqb n m (λ e. eqb-false m n p (sym e))

-- neither of two tests holds where their disjunction does not
pub or_false_left : (a b : Bool) → (a || b) ≡ false → a ≡ false
or_false_left true b e = e
or_false_left false b e = refl

pub or_false_right : (a b : Bool) → (a || b) ≡ false → b ≡ false
or_false_right true b e = cc
or_false_right false b e = e

-- both of two tests hold where their conjunction does
pub and_true_left : (a b : Bool) → (a && b) ≡ true → a ≡ true
and_true_left true b e = refl
and_true_left false b e = e

pub and_true_right : (a b : Bool) → (a && b) ≡ true → b ≡ true
and_true_right true b e = e
and_true_right false b e = cc

-- a test that holds leaves the tests after it
pub and_step : {a b x : Bool} → a ≡ true → x ≡ b → x ≡ (a && b)
and_step p q = rw (p, q)

-- a chain of tests: b is what the code found, t the definition's test, and r the answer
pub cond_taken : {A : Type 0} (b t : Bool) (x y r : A) → b ≡ t → b ≡ true → r ≡ x → r ≡ cond t x y
cond_taken b t x y r p q e = rw (← p, q) e

pub cond_passed : {A : Type 0} (b t : Bool) (x y r : A) → b ≡ t → b ≡ false → r ≡ y → r ≡ cond t x y
cond_passed b t x y r p q e = rw (← p, q) e

pub ruleset chain = (cond_taken, cond_passed)

-- what holds of both answers of a test, each where the test finds it, holds of the answer
pub cond_all : {A : Type 0} (P : A → Type 0) (t : Bool) (x y : A) → (t ≡ true → P x) → (t ≡ false → P y) → P (cond t x y)
cond_all P true x y p q = p refl
cond_all P false x y p q = q refl
