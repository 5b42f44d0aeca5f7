-- A parameter as it is written: "Padding and reserved bits .. are zero when written."
use Rattle.std.specs.Prelude.{ℕ, ◌+◌, ◌-◌, List, ◌++◌, length, replicate}
use Rattle.octets.specs.Written.{bytes_of}
use Rattle.parameter.specs.Parameters.{takes}

-- the bytes of type and length L
abbrev pub head_size : ℕ
head_size = 4

-- "type (2 bytes), length L (2 bytes), L bytes, padding"
unfoldable pub parameter_bytes : (kind : ℕ) → (body : List ℕ) → List ℕ
parameter_bytes kind body =
    bytes_of 2 kind ++ (bytes_of 2 (length body) ++ (body ++ replicate (takes (length body) - (head_size + length body)) 0))
