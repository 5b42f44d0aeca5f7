-- The addresses of the locators that were read before. Assumes nothing.
use mathlib.Core.Path.{◌≡◌, refl, ap, sym, ◌∙◌}
use mathlib.Core.Bool.{Bool, true, false, not, ◌||◌, or-false}
use mathlib.Core.List.{List, [], ◌∷◌}
use Prim.Native.Nat.{ℕ, zero, suc, ◌+◌, ◌<◌}
use lib.Dec.{eqb}
use lib.ListN.{length, get_or, set, take}
use borrow.Author.Tests.{eqb-true}
use Rattle.boolean.proofs.Laws.{or_false_left, or_false_right, and_true_left, and_true_right}
use Rattle.std.specs.List.{list_any}
use Rattle.std.proofs.lemmas.List.{take_more_set}
use Rattle.std.proofs.lemmas.List.Folds.{list_any-append}
use Rattle.address.specs.declared.Address.{Address}
use Rattle.address.specs.Rules.{same_address}
use Rattle.locator.specs.declared.ListedLocator.{ListedLocator}
use Rattle.locator_set.specs.Buckets.{bucket_of, unused}

-- an address whose bucket is not used is none of those whose buckets are
other_bucket : (used : List Bool) (a : Address) (ls : List ListedLocator) → list_any (λ (l : ListedLocator). unused used l.address) ls ≡ false → get_or used (bucket_of a) false ≡ false
    → list_any (λ (l : ListedLocator). same_address a l.address) ls ≡ false
other_bucket used a [] h e = refl
other_bucket used a (l ∷ ls) h e =
    rw (differ (same_address a l.address) refl, other_bucket used a ls (or_false_right (unused used l.address) _ h) e)
  where
    differ : (x : Bool) → same_address a l.address ≡ x → x ≡ false
    differ false q = refl
    differ true q =
        let high = eqb-true a.high l.address.high (and_true_left (eqb a.high l.address.high) (eqb a.low l.address.low) q) in
        let low = eqb-true a.low l.address.low (and_true_right (eqb a.high l.address.high) (eqb a.low l.address.low) q) in
        sym (ap not (rw (high, low) at e)) ∙ or_false_left (unused used l.address) _ h

pub not_listed : (used : List Bool) (a : Address) (ls : List ListedLocator) (k : ℕ) → k ≡ bucket_of a → list_any (λ (l : ListedLocator). unused used l.address) ls ≡ false
    → get_or used k false ≡ false → get_or used k false ≡ list_any (λ (l : ListedLocator). same_address a l.address) ls
not_listed used a ls k q h e = e ∙ sym (other_bucket used a ls h (ap (λ (n : ℕ). get_or used n false) (sym q) ∙ e))

-- one more bucket is used: those that were are, and so is it
stays_used : (used : List Bool) (k j : ℕ) → not (get_or used j false) ≡ false → not (get_or (set used k true) j false) ≡ false
stays_used [] k j h = h
stays_used (x ∷ xs) zero zero h = refl
stays_used (x ∷ xs) zero (suc j) h = h
stays_used (x ∷ xs) (suc k) zero h = h
stays_used (x ∷ xs) (suc k) (suc j) h = stays_used xs k j h

pub used_kept : (used : List Bool) (k : ℕ) (ls : List ListedLocator) → list_any (λ (l : ListedLocator). unused used l.address) ls ≡ false
    → list_any (λ (l : ListedLocator). unused (set used k true) l.address) ls ≡ false
used_kept used k [] h = refl
used_kept used k (l ∷ ls) h =
    rw (stays_used used k (bucket_of l.address) (or_false_left (unused used l.address) _ h), used_kept used k ls (or_false_right (unused used l.address) _ h))

-- one more locator is listed: a test finds one of those before it, or it
pub any_more : (p : ListedLocator → Bool) (listed : List ListedLocator) (count : ℕ) (l : ListedLocator) → count < length listed
    → list_any p (take (count + 1) (set listed count l)) ≡ (list_any p (take count listed) || p l)
any_more p listed count l h = rw (take_more_set listed count l h, list_any-append p (take count listed) (l ∷ []), or-false (p l)) refl
