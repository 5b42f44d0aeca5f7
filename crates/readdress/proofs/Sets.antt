-- A loop over the entries of a set, which are the first `count` of an array of eight. It leaves at the first entry that passes a test. Assumes nothing.
use Prim.Native.Nat.{ℕ, ◌+◌, ◌≤◌, ◌<◌}
use mathlib.Core.Path.{◌≡◌, ◌∙◌}
use mathlib.Core.Bool.{Bool, true, false, cond}
use mathlib.Core.List.{List, [], ◌∷◌}
use lib.ListN.{length, get_or, take, drop, length-take, drop_of_length-le}
use lib.Seq.{drop-cons, get_or-take}
use native.Mathlib.Numerals.{add-one}
use native.Mathlib.Omega.{arith}

module _ {A : Type 0} where
  -- the entry at j comes first of those from j on
  pub entry_first : (listed : List A) (count j : ℕ) (d : A) → length listed ≡ 8 → j < 8 → j < count →
      drop j (take count listed) ≡ get_or listed j d ∷ drop (j + 1) (take count listed)
  entry_first listed count j d e h k =
      let m = length-take count listed in
      drop-cons (take count listed) j d (omega arith) ∙ rw (get_or-take count listed j d k, add-one j)

  -- past the count there is none
  pub entries_spent : (listed : List A) (count j : ℕ) → count ≤ j → drop j (take count listed) ≡ []
  entries_spent listed count j h =
      let m = length-take count listed in
      drop_of_length-le (take count listed) {i = j} (omega arith)

  -- nor past the array
  pub entries_end : (listed : List A) (count j : ℕ) → length listed ≡ 8 → 8 ≤ j → drop j (take count listed) ≡ []
  entries_end listed count j e h =
      let m = length-take count listed in
      drop_of_length-le (take count listed) {i = j} (omega arith)

-- What the loop works out is `over`, a function of the entries from an index on: `found` of the first that passes the test, or `none`
module _ {A R : Type 0} (over : List A → R) (test : A → Bool) (found : A → R) (none : R) where
  -- the loop's turns at j: `whole` is the loop's answer, and b what the code found
  pub record SetLoop : Type 0 where
    -- the entry at j passes
    pub hit : (listed : List A) (count j : ℕ) (d : A) (whole : R) (b : Bool) → length listed ≡ 8 → j < 8 → j < count →
        whole ≡ over (drop j (take count listed)) → b ≡ test (get_or listed j d) → b ≡ true → found (get_or listed j d) ≡ whole
    -- it does not, and the entries after it decide
    pub miss : (listed : List A) (count j : ℕ) (d : A) (whole : R) (b : Bool) → length listed ≡ 8 → j < 8 → j < count →
        whole ≡ over (drop j (take count listed)) → b ≡ test (get_or listed j d) → b ≡ false → whole ≡ over (drop (j + 1) (take count listed))
    -- none is left: the count is reached
    pub spent : (listed : List A) (count j : ℕ) (whole : R) → count ≤ j → whole ≡ over (drop j (take count listed)) → none ≡ whole
    -- none is left: the array ends
    pub end : (listed : List A) (count j : ℕ) (whole : R) → length listed ≡ 8 → 8 ≤ j → whole ≡ over (drop j (take count listed)) → none ≡ whole

  pub set_loop : over [] ≡ none → ((x : A) (xs : List A) → over (x ∷ xs) ≡ cond (test x) (found x) (over xs)) → SetLoop
  set_loop stops steps = record {
    hit = λ listed count j d whole b e h k p q r. rw (p, entry_first listed count j d e h k, steps, ← q, r);
    miss = λ listed count j d whole b e h k p q r. p ∙ rw (entry_first listed count j d e h k, steps, ← q, r);
    spent = λ listed count j whole h p. rw (p, entries_spent listed count j h, stops);
    end = λ listed count j whole e h p. rw (p, entries_end listed count j e h, stops);
  }
