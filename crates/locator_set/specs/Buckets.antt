-- The buckets that addresses fall into: cited by private functions alone.
use Rattle.std.specs.Prelude.{ℕ, ◌+◌, ◌%◌, Bool, false, not, List, get_or}
use Rattle.address.specs.declared.Address.{Address}

-- how many there are
abbrev pub bucket_count : ℕ
bucket_count = 64

-- the bucket of an address
abbrev pub bucket_of : Address → ℕ
bucket_of a = (a.high % bucket_count + a.low % bucket_count) % bucket_count

-- its bucket is not used
abbrev pub unused : (used : List Bool) → Address → Bool
unused used a = not (get_or used (bucket_of a) false)
