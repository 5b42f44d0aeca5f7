-- The clock, in seconds, and the ageing of credit "at a constant period" (order 3).
use Rattle.std.specs.Prelude.{ℕ, zero, suc, ◌+◌, ◌-◌, ◌*◌, ◌/◌, ◌^◌, Bool, ◌||◌, leb, ltb}

-- "time below 2^40"
abbrev pub time_limit : ℕ
time_limit = 2 ^ 40

-- refusal 12: "tick: time before the stored time, or 2^40 or more"
abbrev pub refusal12 : (stored time : ℕ) → Bool
refusal12 stored time = ltb time stored || leb time_limit time

-- the constant period: "Each whole 5 seconds is one ageing"
abbrev pub ageing_interval : ℕ
ageing_interval = 5

-- the ageings that a tick at this time makes: "a tick 17 seconds after the last ageing holds three ageings"
abbrev pub ageings : (last time : ℕ) → ℕ
ageings last time = (time - last) / ageing_interval

-- "credit c becomes floor(7c / 8)"
abbrev pub aged_once : ℕ → ℕ
aged_once c = 7 * c / 8

-- the credit after so many ageings, one after the other
unfoldable pub aged_by : (count credit : ℕ) → ℕ
aged_by zero credit = credit
aged_by (suc count) credit = aged_by count (aged_once credit)

-- the credit after a tick
abbrev pub credit_at : (last time credit : ℕ) → ℕ
credit_at last time credit = aged_by (ageings last time) credit

-- "the last ageing stands at 15 seconds, leaving two towards the next"
abbrev pub last_ageing : (last time : ℕ) → ℕ
last_ageing last time = last + ageings last time * ageing_interval
