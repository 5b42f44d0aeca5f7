-- The lowest slot that fits: it does, and lies among the slots; where there is none, no slot fits. Assumes nothing.
use mathlib.Core.Path.{◌≡◌, refl, ap}
use mathlib.Core.Bool.{Bool, true, false, cond}
use mathlib.Core.List.{List, [], ◌∷◌}
use Prim.Native.Nat.{ℕ, suc, ◌+◌, ◌-◌, ◌≤◌, ◌<◌}
use lib.ListN.{length}
use native.Mathlib.Omega.{arith}
use Rattle.slot.specs.declared.Slot.{Slot}
use Rattle.slot.specs.Found.{slot_at}
use Rattle.slots.proofs.Each.{All}
use Rattle.path.specs.Choices.{lowest}
use Rattle.std.specs.Prelude.{None, Option, Some}

abbrev pub number_in : Option ℕ → ℕ
number_in None = 0
number_in (Some n) = n

-- slot i is among those of a list that begins with slot n, and fits
record Fits (fits : Slot → Bool) (n : ℕ) (ss : List Slot) (i : ℕ) : Type 0 where
  from : n ≤ i
  within : i < n + length ss
  fit : fits (slot_at (i - n) ss) ≡ true

lowest_fits : (fits : Slot → Bool) (n : ℕ) (ss : List Slot) (i : ℕ) → lowest fits n ss ≡ Some i → Fits fits n ss i
lowest_fits fits n [] i e = let z : ◌≡◌ {A = ℕ} 0 1 = cc in absurd (omega arith)
lowest_fits fits n (s ∷ ss) i e = go (λ q. lowest_fits fits (n + 1) ss i q) (fits s) refl e
  where
    go : (lowest fits (n + 1) ss ≡ Some i → Fits fits (n + 1) ss i) → (b : Bool) → fits s ≡ b → cond b (Some n) (lowest fits (n + 1) ss) ≡ Some i →
        Fits fits n (s ∷ ss) i
    go ih true q e =
        let z : n ≡ i = ap number_in e in
        let y : i - n ≡ 0 = omega arith in
        record { from = omega arith; within = omega arith; fit = rw y q }
    go ih false q e =
        let r = ih e in
        let f = r.from in
        let w = r.within in
        let y : i - n ≡ suc (i - (n + 1)) = omega arith in
        record { from = omega arith; within = omega arith; fit = rw y r.fit }

pub lowest_fit : (fits : Slot → Bool) (ss : List Slot) (i : ℕ) → lowest fits 0 ss ≡ Some i → fits (slot_at i ss) ≡ true
lowest_fit fits ss i e = let y : i - 0 ≡ i = omega arith in rw y at (lowest_fits fits 0 ss i e).fit

pub lowest_within : (fits : Slot → Bool) (ss : List Slot) (i : ℕ) → lowest fits 0 ss ≡ Some i → i < length ss
lowest_within fits ss i e = let w = (lowest_fits fits 0 ss i e).within in omega arith

pub lowest_nowhere : (fits : Slot → Bool) (n : ℕ) (ss : List Slot) → lowest fits n ss ≡ None → All (λ s. fits s ≡ false) ss
unfolding All
lowest_nowhere fits n [] e = tt
lowest_nowhere fits n (s ∷ ss) e = go (λ q. lowest_nowhere fits (n + 1) ss q) (fits s) refl e
  where
    go : (lowest fits (n + 1) ss ≡ None → All (λ s. fits s ≡ false) ss) → (b : Bool) → fits s ≡ b → cond b (Some n) (lowest fits (n + 1) ss) ≡ None →
        (fits s ≡ false) × All (λ s. fits s ≡ false) ss
    go ih true q e = let z : ◌≡◌ {A = ℕ} 0 1 = cc in absurd (omega arith)
    go ih false q e = (q, ih e)
