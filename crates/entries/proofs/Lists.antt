-- The entries of a list, one by one. Assumes nothing.
use Rattle.std.proofs.Common.{◌≡◌, refl, ℕ, zero, suc, ◌+◌, ◌-◌, ◌<◌, ◌≤◌, true, false, ◌&&◌, List, arith}
use Rattle.std.proofs.lemmas.Bool.Decides.{nat_tests}
use Rattle.sections.specs.declared.Record.{Record}
use Rattle.entries.specs.Entries.{is_entry, are_entries}

-- no entry; one more that is of its widths, from the first entry on and from the last one back
pub entries_none : (s : List ℕ) (r : Record) (k : ℕ) → k ≤ 0 → are_entries s r k ≡ true
unfolding are_entries
entries_none s r k h = let e : k ≡ 0 = omega arith in rw e

pub entries_more : (s : List ℕ) (r : Record) (k j : ℕ) → j ≡ k + 1 → is_entry s r k ≡ true → are_entries s r k ≡ true → are_entries s r j ≡ true
unfolding are_entries
entries_more s r k j e h l = let next : j ≡ suc k = omega arith in rw (next, h, l) refl

one_more : (s : List ℕ) (r : Record) (k j : ℕ) → k ≡ suc j → are_entries s r k ≡ (is_entry s r j && are_entries s r j)
unfolding are_entries
one_more s r k j e = rw e

pub entries_less : (s : List ℕ) (r : Record) (k : ℕ) → 0 < k → is_entry s r (k - 1) ≡ true → are_entries s r k ≡ are_entries s r (k - 1)
entries_less s r k h e = rw (one_more s r k (k - 1) (omega arith), e)

-- where all are of their widths each is, so that the list has no blank among them
pub entries_each : (s : List ℕ) (r : Record) (count k : ℕ) → are_entries s r count ≡ true → k < count → is_entry s r k ≡ true
unfolding are_entries
entries_each s r zero k h l = absurd (omega arith)
entries_each s r (suc n) k h l = grind (arith, nat_tests, entries_each s r n k)

pub entries_fail : (s : List ℕ) (r : Record) (count k : ℕ) → k < count → is_entry s r k ≡ false → are_entries s r count ≡ false
entries_fail s r count k l e = grind (arith, nat_tests, entries_each s r count k)
