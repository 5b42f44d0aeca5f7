-- What an accepted set lists: the layers above cite these. Assumes nothing.
use mathlib.Core.Path.{◌≡◌, refl, ap, sym, ◌∙◌}
use mathlib.Core.Bool.{false}
use mathlib.Core.List.{List}
use Prim.Native.Nat.{ℕ, ◌≤◌}
use native.Mathlib.Omega.{arith}
use lib.Dec.{ltb, eqb}
use lib.ListN.{length, take, drop, length-append, length-drop, length-map}
use lib.Seq.{take_at}
use borrow.Author.Tests.{ltb-false, eqb-false}
use Rattle.boolean.proofs.Laws.{or_false_left, or_false_right}
use Rattle.octets.proofs.Runs.{records_more}
use Rattle.locator.specs.declared.ListedLocator.{ListedLocator}
use Rattle.locator.specs.Locators.{next_locator, places, listed_at}
use Rattle.locator_set.specs.Sets.{set_limit, refusal6, blanks, listed_of, padded}
use Rattle.locator_set.proofs.Passes.{unfit_set}

-- the array has eight places
pub padded_length : (ls : List ListedLocator) → length ls ≤ set_limit → length (padded ls) ≡ set_limit
padded_length ls h = simp (length-append, length-drop) (omega arith)

-- the locators come first
pub padded_first : (ls : List ListedLocator) → take (length ls) (padded ls) ≡ ls
padded_first ls = take_at ls (drop (length ls) blanks) (length ls) refl

module _ (s : List ℕ) (h : refusal6 s ≡ false) where
  -- "1 to 8 locators in a set"
  pub count_most : length (places s) ≤ set_limit
  count_most =
      ltb-false set_limit (length (places s)) (or_false_left (ltb set_limit (length (places s))) _ (or_false_right (eqb (length s) 0) (unfit_set s) h))

  pub count_least : 1 ≤ length (places s)
  count_least =
      let some_bytes = eqb-false (length s) 0 (or_false_left (eqb (length s) 0) (unfit_set s) h) in
      rw (records_more (λ (at : ℕ). at) (next_locator s) (length s) (length s) 0 (omega arith) (omega arith)) (omega arith)

  -- so many of the array's first are the set's locators, in order
  pub listed_first : take (length (places s)) (padded (listed_of s)) ≡ listed_of s
  listed_first =
      ap (λ (n : ℕ). take n (padded (listed_of s))) (sym (length-map (places s) (listed_at s))) ∙ padded_first (listed_of s)
