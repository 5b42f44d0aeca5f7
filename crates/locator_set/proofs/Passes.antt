-- The pass over a set, turn by turn. Assumes nothing.
use mathlib.Core.Path.{◌≡◌, refl, ap, sym, ◌∙◌}
use mathlib.Core.Bool.{Bool, true, false, cond, ◌||◌, or-true}
use mathlib.Core.List.{List, [], ◌∷◌, map}
use Prim.Native.Nat.{ℕ, suc, ◌+◌, ◌-◌, ◌<◌, ◌≤◌}
use native.Mathlib.Omega.{arith}
use native.Mathlib.Numerals.{add-one}
use lib.Dec.{ltb}
use lib.ListN.{length, set, take, length-set, length-map}
use lib.Seq.{sets, sets-eq, get_or-set_same}
use borrow.Author.Tests.{lt-ltb, le-ltb, ltb-false, eq-eqb, ne_eqb}
use Rattle.std.specs.Prelude.{Result, Ok, Err}
use Rattle.std.specs.List.{list_any}
use Rattle.std.specs.Int.{from_bool}
use Rattle.std.proofs.Math.Bool.{or_comm}
use Rattle.refusal.specs.declared.Refusal.{Refusal}
use Rattle.boolean.proofs.Laws.{or_false_left}
use Rattle.octets.specs.Records.{records}
use Rattle.octets.proofs.Runs.{records_more, records_none}
use Rattle.address.specs.declared.Address.{Address}
use Rattle.address.specs.Rules.{same_address}
use Rattle.locator.specs.declared.ListedLocator.{ListedLocator}
use Rattle.locator.specs.Locators.{places, preferred_at, listed_address, next_locator, illegal_at, listed_at, locator_step_at}
use Rattle.locator.proofs.Entries.{lies_within, is_listed_lem, is_refused}
use Rattle.locator_set.specs.declared.LocatorSet.{LocatorSet}
use Rattle.locator_set.specs.Sets.{set_limit, twice, mark, marks, blanks, listed_of, padded, accepted_set, refused_set, set_of}
use Rattle.locator_set.specs.Buckets.{bucket_count, bucket_of, unused}
use Rattle.locator_set.proofs.Earlier.{any_more, used_kept}

-- refusal 6 by the locators at the places `ats`, after `count` others that have the addresses `before` and `marked` times P
unfoldable pub unfit : List ℕ → (count : ℕ) → List Address → (marked : ℕ) → List ℕ → Bool
unfit s count before marked ats =
    ltb set_limit (count + length ats) || (list_any (illegal_at s) ats || (twice s before ats || ltb 1 (marks s marked ats)))

-- the answer by the locators at the places `ats`, after `count` others that `listed` holds, with the addresses `before` and `marked` times P
unfoldable pub judged : List ℕ → (count : ℕ) → List Address → (marked : ℕ) → List ListedLocator → List ℕ → Result LocatorSet Refusal
judged s count before marked listed ats =
    cond (unfit s count before marked ats) refused_set
    (Ok (record { listed = sets listed count (map (listed_at s) ats); count = count + length ats }))

-- a locator with P counts as true does
mark_same : (b : Bool) → from_bool b ≡ mark b
mark_same true = refl
mark_same false = refl

-- no P is taken back
marks_grow : (s : List ℕ) (before : ℕ) (ats : List ℕ) → before ≤ marks s before ats
unfolding marks
marks_grow s before [] = omega arith
marks_grow s before (at ∷ ats) = omega (arith, marks_grow s (before + mark (preferred_at s at)) ats)

module _ (s : List ℕ) (count : ℕ) (before : List Address) (marked : ℕ) (listed : List ListedLocator) (at : ℕ) (ats : List ℕ) where
  judged_many : 8 ≤ count → judged s count before marked listed (at ∷ ats) ≡ refused_set
  unfolding judged unfit
  judged_many h = rw (lt-ltb set_limit (count + length (at ∷ ats)) (omega arith))

  judged_illegal : illegal_at s at ≡ true → judged s count before marked listed (at ∷ ats) ≡ refused_set
  unfolding judged unfit
  judged_illegal h = simp (h, or-true)

  judged_twice : list_any (same_address (listed_address s at)) before ≡ true → judged s count before marked listed (at ∷ ats) ≡ refused_set
  unfolding judged unfit twice
  judged_twice h = simp (h, or-true)

  judged_on : illegal_at s at ≡ false → list_any (same_address (listed_address s at)) before ≡ false
      → judged s count before marked listed (at ∷ ats)
      ≡ judged s (count + 1) (listed_address s at ∷ before) (marked + mark (preferred_at s at)) (set listed count (listed_at s at)) ats
  unfolding judged unfit twice marks
  judged_on h g =
      let e : count + suc (length ats) ≡ suc count + length ats = omega arith in
      simp (h, g, add-one count, e)

  judged_marked : 1 < marked + mark (preferred_at s at) → judged s count before marked listed (at ∷ ats) ≡ refused_set
  unfolding judged unfit marks
  judged_marked h =
      let more = marked + mark (preferred_at s at) in
      simp (lt-ltb 1 (marks s more ats) (omega (arith, marks_grow s more ats)), or-true)

  judged_end : count ≤ 8 → judged s count before marked listed [] ≡ cond (ltb 1 marked) refused_set (Ok (record { listed = listed; count = count + 0 }))
  unfolding judged unfit twice marks
  judged_end h = rw (le-ltb set_limit (count + 0) (omega arith))

-- from the start: the stores leave the locators with blanks after them
stored : (ls : List ListedLocator) → length ls ≤ set_limit → sets blanks 0 ls ≡ padded ls
stored ls h = let e : 0 + length ls ≡ length ls = omega arith in sets-eq ls blanks 0 (omega arith) ∙ rw e

-- refusal 6 by all locators of a set
abbrev pub unfit_set : List ℕ → Bool
unfit_set s =
    ltb set_limit (length (places s)) || (list_any (illegal_at s) (places s) || (twice s [] (places s) || ltb 1 (marks s 0 (places s))))

unfit_start : (s : List ℕ) → unfit s 0 [] 0 (places s) ≡ unfit_set s
unfolding unfit
unfit_start s = let e : 0 + length (places s) ≡ length (places s) = omega arith in rw e

from_start : (s : List ℕ) → (length s ≡ 0 → ⊥) → judged s 0 [] 0 blanks (places s) ≡ set_of s
unfolding judged set_of
from_start s h = rw (ne_eqb _ _ h, unfit_start s) (go (unfit_set s) refl)
  where
    go : (b : Bool) → unfit_set s ≡ b
        → cond b refused_set (Ok (record { listed = sets blanks 0 (listed_of s); count = 0 + length (places s) }))
        ≡ cond b refused_set (Ok (accepted_set s))
    go true e = refl
    go false e =
        let few : length (places s) ≤ set_limit =
        ltb-false set_limit (length (places s)) (or_false_left (ltb set_limit (length (places s))) _ e) in
        let same : 0 + length (places s) ≡ length (places s) = omega arith in
        rw (same, stored (listed_of s) (rw (length-map (places s) (listed_at s)) few))

-- what holds at the loop's head: the locators from `at` on, after those that were read, give the set's answer
pub record Passing (s : List ℕ) (listed : List ListedLocator) (used : List Bool) (count marked at : ℕ) : Type 0 where
  pub few : count ≤ 8
  pub few_marks : marked ≤ 1
  pub listed_long : length listed ≡ 8
  pub used_long : length used ≡ bucket_count
  pub all_used : list_any (λ (l : ListedLocator). unused used l.address) (take count listed) ≡ false
  pub before : List Address
  pub are_before : (a : Address) → list_any (same_address a) before ≡ list_any (λ (l : ListedLocator). same_address a l.address) (take count listed)
  pub steps : ℕ
  pub enough : length s - at ≤ steps
  pub agrees : judged s count before marked listed (records (λ (at : ℕ). at) (next_locator s) (length s) steps at) ≡ set_of s

pub set_empty : (s : List ℕ) → length s ≡ 0 → refused_set ≡ set_of s
unfolding set_of
set_empty s h = rw (eq-eqb _ _ h)

pub set_starts : (s : List ℕ) (used : List Bool) → length used ≡ bucket_count → (length s ≡ 0 → ⊥) → Passing s blanks used 0 0 0
set_starts s used u h = record {
  few = omega arith;
  few_marks = omega arith;
  listed_long = refl;
  used_long = u;
  all_used = refl;
  before = [];
  are_before = λ a. refl;
  steps = length s;
  enough = omega arith;
  agrees = from_start s h;
}

module _ (s : List ℕ) (listed : List ListedLocator) (used : List Bool) (count marked at : ℕ) (w : Passing s listed used count marked at) where
  ended : length s ≤ at → cond (ltb 1 marked) refused_set (Ok (record { listed = listed; count = count })) ≡ set_of s
  ended h =
      let e : count + 0 ≡ count = omega arith in
      rw e at (sym (judged_end s count w.before marked listed 0 [] w.few))
      ∙ (ap (judged s count w.before marked listed) (sym (records_none (λ (at : ℕ). at) (next_locator s) (length s) w.steps at h)) ∙ w.agrees)

  pub set_ends : length s ≤ at → Ok (record { listed = listed; count = count }) ≡ set_of s
  set_ends h = rw (le-ltb _ _ w.few_marks) at (ended h)

  front : at < length s → judged s count w.before marked listed (at ∷ records (λ (at : ℕ). at) (next_locator s) (length s) (w.steps - 1) (next_locator s at)) ≡ set_of s
  front h = ap (judged s count w.before marked listed) (sym (records_more (λ (at : ℕ). at) (next_locator s) (length s) w.steps at h w.enough)) ∙ w.agrees

  module _ (h : at < length s) where
    pub set_many : count ≡ 8 → refused_set ≡ set_of s
    set_many e = sym (judged_many s count w.before marked listed at _ (omega arith)) ∙ front h

    module _ (step : Result (ListedLocator × ℕ) Refusal) (g : step ≡ locator_step_at s at) where
      pub set_illegal : {why : Refusal} → step ≡ Err why → Err why ≡ set_of s
      set_illegal e =
          let r = is_refused (listed_at s at) (next_locator s at) step (illegal_at s at) g e in
          rw r.1 (sym (judged_illegal s count w.before marked listed at _ r.0) ∙ front h)

      module _ {found : ListedLocator × ℕ} (e : step ≡ Ok found) where
        legal_at : illegal_at s at ≡ false
        legal_at = (is_listed_lem (listed_at s at) (next_locator s at) step (illegal_at s at) g e).0

        found_at : found ≡ (listed_at s at, next_locator s at)
        found_at = (is_listed_lem (listed_at s at) (next_locator s at) step (illegal_at s at) g e).1

        pub set_nearer : (found.1 ≤ length s) × (at < found.1)
        set_nearer = rw found_at (lies_within s at legal_at)

        pub set_marked : {n : ℕ} → n ≡ from_bool found.0.preferred → 1 < marked + n → refused_set ≡ set_of s
        set_marked f p = sym (judged_marked s count w.before marked listed at _ (rw (f ∙ mark_same found.0.preferred, found_at) at p)) ∙ front h

        pub set_twice : list_any (λ (l : ListedLocator). same_address found.0.address l.address) (take count listed) ≡ true → refused_set ≡ set_of s
        set_twice m =
            sym (judged_twice s count w.before marked listed at _ (w.are_before (listed_address s at) ∙ rw found_at at m)) ∙ front h

        goes_at : (count ≡ 8 → ⊥) → list_any (λ (l : ListedLocator). same_address (listed_address s at) l.address) (take count listed) ≡ false
            → marked + mark (preferred_at s at) ≤ 1
            → Passing s (set listed count (listed_at s at)) (set used (bucket_of (listed_address s at)) true) (count + 1) (marked + mark (preferred_at s at)) (next_locator s at)
        goes_at full m p =
            let bucket = bucket_of (listed_address s at) in
            let room : count < length listed = omega (arith, w.few, w.listed_long) in
            let fits : bucket < length used = omega (arith, w.used_long) in
            record {
              few = omega (arith, w.few);
              few_marks = p;
              listed_long = length-set listed count (listed_at s at) ∙ w.listed_long;
              used_long = length-set used bucket true ∙ w.used_long;
              all_used =
                  any_more (λ (l : ListedLocator). unused (set used bucket true) l.address) listed count (listed_at s at) room
                  ∙ rw (used_kept used bucket (take count listed) w.all_used, get_or-set_same used bucket true false fits) refl;
              before = listed_address s at ∷ w.before;
              are_before = λ a.
                  ap (λ (b : Bool). same_address a (listed_address s at) || b) (w.are_before a)
                  ∙ or_comm (same_address a (listed_address s at)) (list_any (λ (l : ListedLocator). same_address a l.address) (take count listed))
                  ∙ sym (any_more (λ (l : ListedLocator). same_address a l.address) listed count (listed_at s at) room);
              steps = w.steps - 1;
              enough = omega (arith, w.enough, lies_within s at legal_at);
              agrees = sym (judged_on s count w.before marked listed at _ legal_at (w.are_before (listed_address s at) ∙ m)) ∙ front h;
            }

        pub set_goes : {k n : ℕ} → (count ≡ 8 → ⊥) → list_any (λ (l : ListedLocator). same_address found.0.address l.address) (take count listed) ≡ false
            → n ≡ from_bool found.0.preferred → marked + n ≤ 1 → k ≡ bucket_of found.0.address
            → Passing s (set listed count found.0) (set used k true) (count + 1) (marked + n) found.1
        set_goes full m f p q = rw (q, f ∙ mark_same found.0.preferred, found_at) (goes_at full (rw found_at at m) (rw (f ∙ mark_same found.0.preferred, found_at) at p))
