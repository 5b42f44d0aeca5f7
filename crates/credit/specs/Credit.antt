-- Credit, in bytes: its limit, the sizes of payload, and what an arrival and a grant make of it.
use Rattle.std.specs.Prelude.{ℕ, ◌+◌, min, Bool, ◌||◌, ltb}

-- "credit at most 1,048,576"
abbrev pub credit_limit : ℕ
credit_limit = 1048576

-- "payload size 1 to 65,535"
abbrev pub least_size : ℕ
least_size = 1

abbrev pub most_size : ℕ
most_size = 65535

-- refusal 13: "arrival or send: size outside the limit"
abbrev pub refusal13 : (size : ℕ) → Bool
refusal13 size = ltb size least_size || ltb most_size size

-- "Arrival adds its size, stopping at the limit."
abbrev pub credited : (credit size : ℕ) → ℕ
credited credit size = min (credit + size) credit_limit

-- "granted exactly if credit is higher than its size"
abbrev pub covers : (credit size : ℕ) → Bool
covers credit size = ltb size credit
