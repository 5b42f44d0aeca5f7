-- The test of equal addresses says so. Assumes nothing.
use mathlib.Core.Path.{◌≡◌, refl, ap₂, sym, ◌∙◌}
use mathlib.Core.Bool.{Bool, true, false}
use Prim.Native.Nat.{ℕ}
use lib.Dec.{eqb}
use borrow.Author.Tests.{eqb-true, eq-eqb}
use Rattle.boolean.proofs.Laws.{and_true_left, and_true_right}
use Rattle.address.specs.declared.Address.{Address}
use Rattle.address.specs.Rules.{same_address}

abbrev address_of : (high low : ℕ) → Address
address_of high low = record { high = high; low = low }

pub same_equal : (x y : Address) → same_address x y ≡ true → x ≡ y
same_equal x y p =
    let q = and_true_left (eqb x.high y.high) (eqb x.low y.low) p in
    let r = and_true_right (eqb x.high y.high) (eqb x.low y.low) p in
    ap₂ address_of (eqb-true x.high y.high q) (eqb-true x.low y.low r)

pub same_self : (x : Address) → same_address x x ≡ true
same_self x = rw (eq-eqb x.high x.high refl, eq-eqb x.low x.low refl)

pub same_turned : (x y : Address) (b : Bool) → same_address x y ≡ b → same_address y x ≡ b
same_turned x y true p = rw (same_equal x y p) (same_self y)
same_turned x y false p = go (same_address y x) refl
  where
    go : (c : Bool) → same_address y x ≡ c → same_address y x ≡ false
    go true q = let e : same_address x y ≡ true = rw (same_equal y x q) (same_self x) in let z : true ≡ false = sym e ∙ p in q ∙ z
    go false q = q
