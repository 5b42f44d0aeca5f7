-- No more moments are reached than there are; a check stays good as time goes on and its count follows the moments. Assumes nothing.
use mathlib.Core.Path.{◌≡◌}
use mathlib.Core.Bool.{false}
use Prim.Native.Nat.{ℕ, ◌-◌, ◌≤◌, ◌<◌}
use lib.Dec.{leb, ltb}
use lib.ListN.{length}
use borrow.Author.Tests.{leb-false, ltb-false, le-ltb}
use Rattle.std.proofs.lemmas.List.Sums.{count_by-le-length}
use Rattle.boolean.proofs.Laws.{or_false_left, or_false_right}
use Rattle.check_times.specs.Times.{moments, reached, check_life, is_given_up, is_bad_check}

pub reached_most : (issued time : ℕ) → reached issued time ≤ length moments
reached_most issued time = count_by-le-length (λ (moment : ℕ). leb moment (time - issued)) moments

-- a check that is not given up is younger than it may be
pub not_given_up : (issued time : ℕ) → is_given_up issued time ≡ false → time - issued < check_life
not_given_up issued time p = leb-false check_life (time - issued) p

-- refusal 0 does not refuse a check that is issued by now and was sent again no more often than there are moments
pub good : (issued resends time : ℕ) → issued ≤ time → resends ≤ length moments → is_bad_check issued resends time ≡ false
good issued resends time h k = rw (le-ltb time issued h, le-ltb (length moments) resends k)

pub good_issued : (issued resends time : ℕ) → is_bad_check issued resends time ≡ false → issued ≤ time
good_issued issued resends time p = ltb-false time issued (or_false_left (ltb time issued) (ltb (length moments) resends) p)

pub good_resends : (issued resends time : ℕ) → is_bad_check issued resends time ≡ false → resends ≤ length moments
good_resends issued resends time p = ltb-false (length moments) resends (or_false_right (ltb time issued) (ltb (length moments) resends) p)
