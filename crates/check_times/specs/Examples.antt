-- Worked examples, computed from the definitions: a check that is issued at 100.
use Rattle.std.specs.Prelude.{ℕ, ◌≡◌, refl, Bool, true, false, List, [], ◌∷◌, map, replicate}
use Rattle.check_times.specs.Times.{moments, reached, is_due, check_life, is_given_up, is_bad_check}

-- "at 1, 2, 4 and 8 seconds after issue", "16 or more seconds"
numbers : (moments ≡ 1 ∷ 2 ∷ 4 ∷ 8 ∷ []) × (check_life ≡ 16)
numbers = (refl, refl)

-- the moments reached, before each, at it and after it; before issue, where refusal 12 refuses a tick, there are none, and there are never more than four
moments_reached : let times : List ℕ = 0 ∷ 99 ∷ 100 ∷ 101 ∷ 102 ∷ 103 ∷ 104 ∷ 105 ∷ 107 ∷ 108 ∷ 109 ∷ 115 ∷ 116 ∷ 1099511627775 ∷ [] in
    map (reached 100) times ≡ 0 ∷ 0 ∷ 0 ∷ 1 ∷ 2 ∷ 2 ∷ 3 ∷ 3 ∷ 3 ∷ 4 ∷ 4 ∷ 4 ∷ 4 ∷ 4 ∷ []
moments_reached = refl

-- a check that was sent again 0 to 4 times is due before the first moment, at it, before and at the second, and at the last
due : let counts : List ℕ = 0 ∷ 1 ∷ 2 ∷ 3 ∷ 4 ∷ [] in
    let at : ℕ → List Bool = λ (time : ℕ). map (λ (count : ℕ). is_due 100 count time) counts in
    (at 100 ≡ replicate 5 false)
    × (at 101 ≡ true ∷ false ∷ false ∷ false ∷ false ∷ [])
    × (at 102 ≡ true ∷ true ∷ false ∷ false ∷ false ∷ [])
    × (at 107 ≡ true ∷ true ∷ true ∷ false ∷ false ∷ [])
    × (at 108 ≡ true ∷ true ∷ true ∷ true ∷ false ∷ [])
due = (refl, refl, refl, refl, refl)

-- given up from 16 seconds on
given_up_lem : map (is_given_up 100) (0 ∷ 99 ∷ 100 ∷ 108 ∷ 115 ∷ 116 ∷ 117 ∷ 1099511627775 ∷ []) ≡ false ∷ false ∷ false ∷ false ∷ false ∷ true ∷ true ∷ true ∷ []
given_up_lem = refl

-- "an issue time after the stored time or a count over 4": stored times before, at and after issue; counts 3 to 6
bad : (map (is_bad_check 100 0) (0 ∷ 99 ∷ 100 ∷ 101 ∷ []) ≡ true ∷ true ∷ false ∷ false ∷ [])
    × (map (λ (count : ℕ). is_bad_check 100 count 100) (3 ∷ 4 ∷ 5 ∷ 6 ∷ 255 ∷ []) ≡ false ∷ false ∷ true ∷ true ∷ true ∷ [])
bad = (refl, refl)
