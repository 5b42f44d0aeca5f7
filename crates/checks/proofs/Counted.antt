-- The new checks, as std counts what passes a test; there is at most one for each slot; and what a loop over all slots has dealt. Assumes nothing.
use Rattle.std.proofs.Common.{ℕ, ◌≡◌, refl, ◌≤◌, List, length, arith, take, drop, ◌++◌, sym}
use mathlib.Core.List.{append-nil}
use lib.ListN.{drop_of_length-le}
use Rattle.std.specs.List.{count_by}
use Rattle.std.proofs.lemmas.List.{take_all}
use Rattle.std.proofs.lemmas.List.Recursion.{is_count_by}
use Rattle.locator.specs.declared.ListedLocator.{ListedLocator}
use Rattle.slot.specs.declared.Slot.{Slot}
use Rattle.slot.specs.Found.{slot_count}
use Rattle.readdress.specs.Checks.{awaits, check_count, checked}
use Rattle.readdress.proofs.Checked.{count_most}

pub counted : (listed : List ListedLocator) (ss : List Slot) → check_count listed ss ≡ count_by (awaits listed) ss
unfolding check_count
counted listed = is_count_by (check_count listed) (awaits listed) refl (λ s ss. refl)

pub at_most_slots : (listed : List ListedLocator) (ss : List Slot) → length ss ≡ slot_count → check_count listed ss ≤ slot_count
at_most_slots listed ss e = omega (arith, count_most listed ss)

pub all_dealt : (listed : List ListedLocator) (time next : ℕ) (nonces : List ℕ) (k n : ℕ) (whole ss : List Slot) →
    whole ≡ take n ss ++ checked listed time next nonces k (drop n ss) → length ss ≤ n → ss ≡ whole
unfolding checked
all_dealt listed time next nonces k n whole ss p h = rw (p, drop_of_length-le ss {i = n} h, append-nil (take n ss)) (sym (take_all n ss h))
