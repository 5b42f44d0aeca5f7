-- Worked examples, computed from the definitions: the edges of each rule.
use Rattle.std.specs.Prelude.{ℕ, ◌≡◌, refl, true, false, List, [], ◌∷◌, map}
use Rattle.credit.specs.Credit.{credit_limit, least_size, most_size, refusal13, credited, covers}
use Rattle.credit.specs.Clock.{time_limit, refusal12, ageing_interval, ageings, aged_once, aged_by, credit_at, last_ageing}
use Rattle.credit.specs.Lasting.{lasting_within, lasting}

-- "Limits: time below 2^40; credit at most 1,048,576; payload size 1 to 65,535"; "Each whole 5 seconds"
limits : time_limit ∷ credit_limit ∷ least_size ∷ most_size ∷ ageing_interval ∷ [] ≡ 1099511627776 ∷ 1048576 ∷ 1 ∷ 65535 ∷ 5 ∷ []
limits = refl

-- refusal 13 at 0 and past 65,535; refusal 12 before the stored time 100 and from 2^40 on
refusals : (map refusal13 (0 ∷ 1 ∷ 65535 ∷ 65536 ∷ []) ≡ true ∷ false ∷ false ∷ true ∷ [])
    × (map (refusal12 100) (0 ∷ 99 ∷ 100 ∷ 101 ∷ 1099511627775 ∷ 1099511627776 ∷ []) ≡ true ∷ true ∷ false ∷ false ∷ false ∷ true ∷ [])
refusals = (refl, refl)

-- "Arrival adds its size, stopping at the limit."; "granted exactly if credit is higher than its size"
sums : (map (λ c. credited c 1500) (0 ∷ 1 ∷ 1047075 ∷ 1047076 ∷ 1047077 ∷ 1048000 ∷ 1048576 ∷ [])
    ≡ 1500 ∷ 1501 ∷ 1048575 ∷ 1048576 ∷ 1048576 ∷ 1048576 ∷ 1048576 ∷ [])
    × (map (covers 1000) (1 ∷ 999 ∷ 1000 ∷ 1001 ∷ []) ≡ true ∷ true ∷ false ∷ false ∷ [])
    × (map (covers 0) (0 ∷ 1 ∷ []) ≡ false ∷ false ∷ [])
sums = (refl, refl, refl)

-- "credit c becomes floor(7c / 8)": 1,000 ages to 875 and then 765, and 1 to 0; each ageing is rounded by itself: 1,001 ages to 875 and then 765, where 49/64
-- of it, rounded once, would be 766; from the limit the 92nd ageing leaves 1, and the 93rd 0
ageing : (map aged_once (0 ∷ 1 ∷ 2 ∷ 7 ∷ 8 ∷ 9 ∷ 1000 ∷ 1048576 ∷ []) ≡ 0 ∷ 0 ∷ 1 ∷ 6 ∷ 7 ∷ 7 ∷ 875 ∷ 917504 ∷ [])
    × (map (λ k. aged_by k 1000) (0 ∷ 1 ∷ 2 ∷ 3 ∷ []) ≡ 1000 ∷ 875 ∷ 765 ∷ 669 ∷ [])
    × (map (λ k. aged_by k 1001) (0 ∷ 1 ∷ 2 ∷ 3 ∷ []) ≡ 1001 ∷ 875 ∷ 765 ∷ 669 ∷ [])
    × (map (λ k. aged_by k credit_limit) (91 ∷ 92 ∷ 93 ∷ 94 ∷ []) ≡ 2 ∷ 1 ∷ 0 ∷ 0 ∷ [])
unfolding aged_by
ageing = (refl, refl, refl, refl)

-- with the last ageing at 100, "Each whole 5 seconds is one ageing": none at 104, one from 105 on, two from 110, three from 115 to 119. "a tick 17 seconds after
-- the last ageing holds three ageings: 1,000 becomes 669, and the last ageing stands at 15 seconds, leaving two towards the next." 1,001 becomes 765 by two
ticks : let times : List ℕ = 99 ∷ 100 ∷ 104 ∷ 105 ∷ 109 ∷ 110 ∷ 114 ∷ 115 ∷ 117 ∷ 119 ∷ 120 ∷ [] in
    (map (ageings 100) times ≡ 0 ∷ 0 ∷ 0 ∷ 1 ∷ 1 ∷ 2 ∷ 2 ∷ 3 ∷ 3 ∷ 3 ∷ 4 ∷ [])
    × (map (λ t. credit_at 100 t 1000) times ≡ 1000 ∷ 1000 ∷ 1000 ∷ 875 ∷ 875 ∷ 765 ∷ 765 ∷ 669 ∷ 669 ∷ 669 ∷ 585 ∷ [])
    × (map (λ t. credit_at 100 t 1001) (105 ∷ 110 ∷ 115 ∷ []) ≡ 875 ∷ 765 ∷ 669 ∷ [])
    × (map (last_ageing 100) times ≡ 100 ∷ 100 ∷ 100 ∷ 105 ∷ 105 ∷ 110 ∷ 110 ∷ 115 ∷ 115 ∷ 115 ∷ 120 ∷ [])
unfolding aged_by
ticks = (refl, refl, refl, refl)

-- the two seconds that are left at 117 count: with the last ageing at 115, a tick at 119 ages nothing and one at 120 once
towards_the_next : (map (ageings 115) (117 ∷ 119 ∷ 120 ∷ []) ≡ 0 ∷ 0 ∷ 1 ∷ [])
    × (map (λ t. credit_at 115 t 669) (119 ∷ 120 ∷ []) ≡ 669 ∷ 585 ∷ [])
    × (map (last_ageing 115) (119 ∷ 120 ∷ []) ≡ 115 ∷ 120 ∷ [])
unfolding aged_by
towards_the_next = (refl, refl, refl)

-- a time before the last ageing, at which refusal 12 refuses a tick, ages nothing and leaves the last ageing; the ageings up to 2^40 - 1 from 0, 1, and 5
-- seconds before, and the last of them from 0, 1 and 4
ends : (map (ageings 100) (0 ∷ 95 ∷ []) ≡ 0 ∷ 0 ∷ [])
    × (map (last_ageing 100) (0 ∷ 95 ∷ []) ≡ 100 ∷ 100 ∷ [])
    × (map (λ l. ageings l 1099511627775) (0 ∷ 1 ∷ 1099511627770 ∷ []) ≡ 219902325555 ∷ 219902325554 ∷ 1 ∷ [])
    × (map (λ l. last_ageing l 1099511627775) (0 ∷ 1 ∷ 4 ∷ []) ≡ 1099511627775 ∷ 1099511627771 ∷ 1099511627774 ∷ [])
ends = (refl, refl, refl, refl)

-- from the limit the 93rd ageing leaves 0, and so does a tick 465 seconds after the last; of three ageings of 8 all find credit, and of nine the first eight
lasts : (map lasting (0 ∷ 1 ∷ 2 ∷ 8 ∷ 1000 ∷ credit_limit ∷ []) ≡ 0 ∷ 1 ∷ 2 ∷ 8 ∷ 41 ∷ 93 ∷ [])
    × (map (λ t. credit_at 100 t credit_limit) (564 ∷ 565 ∷ 600 ∷ []) ≡ 1 ∷ 0 ∷ 0 ∷ [])
    × (map (λ k. lasting_within k 8) (0 ∷ 3 ∷ 8 ∷ 9 ∷ []) ≡ 0 ∷ 3 ∷ 8 ∷ 8 ∷ [])
unfolding aged_by lasting_within
lasts = (refl, refl, refl)
