-- What `array::from_fn` makes of a closure that answers by a function of its argument and stays as it is. Assumes nothing.
use Rattle.std.proofs.Common.{◌≡◌, refl, ℕ, zero, suc, ◌+◌, ◌<◌, ◌≤◌, Bool, true, false, List, map, get_or, arith, ◌∙◌, subst}
use borrow.Author.Tests.{ltb-true, ltb-false}
use lib.Dec.{ltb}
use Rattle.std.specs.Array.{IsFromFnResultFrom, IsFromFnResult}
use Rattle.std.specs.List.{range_with_len}
use Rattle.std.proofs.lemmas.List.FromFn.{fill_by_all}
use denote.Param.Members.{Mut, Called}

module _ {F X : Type 0} (g : Mut F (ℕ × Unit {0}) X) (f : F) (h : ℕ → X) (says : (k : ℕ) (y : X) (q : F) → Called g f (k, tt) y q → (y ≡ h k) × (q ≡ f)) where
  dealt_at : (n : ℕ) (p : F) (ys : List X) (i k : ℕ) (d : X) → p ≡ f → IsFromFnResultFrom g p ys i n → i ≤ k → k < i + n → get_or ys k d ≡ h k
  dealt_at zero p ys i k d e calls l u = absurd (omega arith)
  dealt_at (suc n) p ys i k d e (q, y, element, call, rest) l u =
      let told = says i y q (subst (λ (x : F). Called g x (i, tt) y q) e call) in
      go (ltb i k) refl told.0 (λ (less : i + 1 ≤ k). dealt_at n q ys (i + 1) k d told.1 rest less (omega arith))
    where
      go : (b : Bool) → ltb i k ≡ b → y ≡ h i → (i + 1 ≤ k → get_or ys k d ≡ h k) → get_or ys k d ≡ h k
      go true t first later = let less : i < k = ltb-true i k t in later (omega arith)
      go false t first later =
          let rest' : k ≤ i = ltb-false i k t in
          let same : k ≡ i = omega arith in
          rw same (element.1 d ∙ first)

  pub dealt : (ys : List X) (n : ℕ) (d : X) → IsFromFnResult g f ys n → ys ≡ map h (range_with_len 0 n)
  dealt ys n d made = fill_by_all h ys n d made.long (λ k below. dealt_at n f ys 0 k d refl made.each (omega arith) (omega arith))
