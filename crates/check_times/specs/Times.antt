-- The times of a check that is not answered (order 4). A check is known here by its issue time, its count of resends, and the time of a tick.
use Rattle.std.specs.Prelude.{ℕ, ◌-◌, Bool, ◌||◌, List, [], ◌∷◌, leb, ltb, length}
use Rattle.std.specs.List.{count_by}

-- the moments, "at 1, 2, 4 and 8 seconds after issue"
abbrev pub moments : List ℕ
moments = 1 ∷ 2 ∷ 4 ∷ 8 ∷ []

-- how many of them are at most so many seconds
abbrev pub reached_of : (seconds : ℕ) → (moments : List ℕ) → ℕ
reached_of seconds moments = count_by (λ (moment : ℕ). leb moment seconds) moments

-- "the number of moments reached"
abbrev pub reached : (issued time : ℕ) → ℕ
reached issued time = reached_of (time - issued) moments

-- "each check whose count is below the number of moments reached"
abbrev pub is_due : (issued resends time : ℕ) → Bool
is_due issued resends time = ltb resends (reached issued time)

-- the seconds that a check lasts
abbrev pub check_life : ℕ
check_life = 16

-- "16 or more seconds after issue": the check is given up
abbrev pub is_given_up : (issued time : ℕ) → Bool
is_given_up issued time = leb check_life (time - issued)

-- refusal 0: "an issue time after the stored time or a count over 4", which is how many moments there are
abbrev pub is_bad_check : (issued resends time : ℕ) → Bool
is_bad_check issued resends time = ltb time issued || ltb (length moments) resends
