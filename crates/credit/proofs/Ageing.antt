-- Laws of ageing. Assumes nothing.
use mathlib.Core.Path.{◌≡◌, refl, sym, ◌∙◌, ap}
use Prim.Native.Nat.{ℕ, zero, suc, ◌+◌, ◌-◌, ◌*◌, ◌≤◌, ◌<◌}
use native.Mathlib.Nat.{zero-add}
use native.Mathlib.Omega.{arith}
use Rattle.credit.specs.Clock.{ageing_interval, ageings, aged_once, aged_by, credit_at, last_ageing}
use Rattle.credit.specs.Lasting.{lasting_within, lasting}

-- an ageing leaves at most seven eighths
pub aged_once_lem : (c : ℕ) → 8 * aged_once c ≤ 7 * c
aged_once_lem c = omega arith

-- ageing raises no credit, and the last ageing is not after the time
pub aged_at_most : (k c : ℕ) → aged_by k c ≤ c
unfolding aged_by
aged_at_most zero c = omega arith
aged_at_most (suc k) c = let r = aged_at_most k (aged_once c) in omega arith

pub last_at_most : (last time : ℕ) → last ≤ time → last_ageing last time ≤ time
last_at_most last time h = omega arith

-- ---- ageings one after the other
-- some, and then some more
aged_again : (j k c : ℕ) → aged_by (j + k) c ≡ aged_by k (aged_by j c)
unfolding aged_by
aged_again zero k c = ap (λ (n : ℕ). aged_by n c) (zero-add k)
aged_again (suc j) k c = let e : suc j + k ≡ suc (j + k) = omega arith in ap (λ (n : ℕ). aged_by n c) e ∙ aged_again j k (aged_once c)

-- one more
aged_next : (k c : ℕ) → aged_by (k + 1) c ≡ aged_once (aged_by k c)
unfolding aged_by
aged_next k c = aged_again k 1 c

-- more credit leaves more
aged_rises : (k c d : ℕ) → c ≤ d → aged_by k c ≤ aged_by k d
unfolding aged_by
aged_rises zero c d h = h
aged_rises (suc k) c d h = aged_rises k (aged_once c) (aged_once d) (omega arith)

-- ---- a credit that is used up
-- 0 stays 0
none_aged : (k : ℕ) → aged_by k 0 ≡ 0
unfolding aged_by
none_aged zero = refl
none_aged (suc k) = none_aged k

-- what some ageings leave as 0, more ageings do
stays_none : (j k c : ℕ) → aged_by j c ≡ 0 → j ≤ k → aged_by k c ≡ 0
stays_none j k c p h =
    let e : k ≡ j + (k - j) = omega arith in
    ap (λ (n : ℕ). aged_by n c) e ∙ (aged_again j (k - j) c ∙ (ap (aged_by (k - j)) p ∙ none_aged (k - j)))

-- ageings that leave something of a credit are fewer than it lasts, and those that leave nothing are not
left_within : (f k c : ℕ) → c ≤ f → 0 < aged_by k c → k < lasting_within f c
unfolding aged_by lasting_within
left_within zero k zero h p = let z = none_aged k in omega arith
left_within zero k (suc c) h p = omega arith
left_within (suc f) k zero h p = let z = none_aged k in omega arith
left_within (suc f) zero (suc c) h p = omega arith
left_within (suc f) (suc k) (suc c) h p = let r = left_within f k (aged_once (suc c)) (omega arith) p in omega arith

none_beyond : (f k c : ℕ) → aged_by k c ≡ 0 → lasting_within f c ≤ k
unfolding aged_by lasting_within
none_beyond zero k c p = omega arith
none_beyond (suc f) k zero p = omega arith
none_beyond (suc f) zero (suc c) p = omega arith
none_beyond (suc f) (suc k) (suc c) p = let r = none_beyond f k (aged_once (suc c)) p in omega arith

-- ageings that leave nothing of a limit leave nothing of a credit within it: of the credit's limit the 93rd (`specs/Examples.antt`, lasts)
pub used_up : (limit k c : ℕ) → c ≤ limit → lasting limit ≤ k → aged_by k c ≡ 0
used_up limit k c h l = go (aged_by k c) refl
  where
    go : (n : ℕ) → aged_by k c ≡ n → aged_by k c ≡ 0
    go zero e = e
    go (suc n) e =
        let r = aged_rises k c limit h in
        let p = left_within limit k limit (omega arith) (omega arith) in
        omega arith

-- a credit within a limit lasts no longer than the limit
pub lasting_rises : (limit c : ℕ) → c ≤ limit → lasting c ≤ lasting limit
lasting_rises limit c h = none_beyond c (lasting limit) c (used_up limit (lasting limit) c h (omega arith))

-- so silence for as many intervals leaves nothing, however long it is
pub silence : (limit last time c : ℕ) → c ≤ limit → lasting limit * ageing_interval ≤ time - last → credit_at last time c ≡ 0
silence limit last time c h l = used_up limit (ageings last time) c h (omega arith)

-- ---- the rounds of a loop that ages
-- before the first
pub none_made : (credit : ℕ) → credit ≡ aged_by 0 credit
unfolding aged_by
none_made credit = refl

-- a credit of 0 is what all ageings leave
pub ends_at_none : (made count credit aged : ℕ) → aged ≡ aged_by made credit → aged ≡ 0 → made ≤ count → aged ≡ aged_by count credit
ends_at_none made count credit aged e h l = h ∙ sym (stays_none made count credit (sym e ∙ h) l)

-- one round more
pub round_more : (made credit aged r : ℕ) → aged ≡ aged_by made credit → r ≡ aged_once aged → r ≡ aged_by (made + 1) credit
round_more made credit aged r e p = p ∙ (ap aged_once e ∙ sym (aged_next made credit))

-- and one less of those that the credit lasts
pub round_less : (made credit aged : ℕ) → aged ≡ aged_by made credit → 1 ≤ aged → lasting credit - (made + 1) < lasting credit - made
round_less made credit aged e h = let r = left_within credit made credit (omega arith) (omega arith) in omega arith

-- ---- the constant period
-- less than an interval is left towards the next ageing
pub rest_below : (last time : ℕ) → last ≤ time → time - last_ageing last time < ageing_interval
rest_below last time h = omega arith

-- a tick between changes nothing at a later one: not how many ageings there are, not the last, not the credit
pub ageings_between : (last t u : ℕ) → last ≤ t → t ≤ u → ageings last t + ageings (last_ageing last t) u ≡ ageings last u
ageings_between last t u h l = omega arith

pub last_between : (last t u : ℕ) → last ≤ t → t ≤ u → last_ageing (last_ageing last t) u ≡ last_ageing last u
last_between last t u h l = omega arith

pub credit_between : (last t u c : ℕ) → last ≤ t → t ≤ u → credit_at (last_ageing last t) u (credit_at last t c) ≡ credit_at last u c
credit_between last t u c h l =
    sym (aged_again (ageings last t) (ageings (last_ageing last t) u) c) ∙ ap (λ (n : ℕ). aged_by n c) (ageings_between last t u h l)
