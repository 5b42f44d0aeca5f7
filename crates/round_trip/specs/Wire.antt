-- Parameters as they stand on the wire, one after another: a sender may pad with any bytes. The words in quotation marks are law 1's, in `Read.antt`.
use Rattle.std.specs.Prelude.{ℕ, ◌+◌, ◌^◌, ◌<◌, ◌≤◌, ◌≡◌, true, List, [], ◌∷◌, ◌++◌, map, eqb, length}
use Rattle.std.specs.List.{list_any}
use Rattle.octets.specs.Written.{bytes_of, joined}
use Rattle.parameter.specs.Types.{host_id, hip_mac, hip_signature}
use Rattle.parameter.specs.Parameters.{takes}
use Rattle.parameter.specs.Written.{head_size}

-- a parameter: its type, its L bytes, and its padding
pub record WireParameter : Type 0 where
  pub kind : ℕ
  pub body : List ℕ
  pub padding : List ℕ

-- "type (2 bytes), length L (2 bytes), L bytes, padding"
unfoldable pub wire_bytes : WireParameter → List ℕ
wire_bytes p = bytes_of 2 p.kind ++ (bytes_of 2 (length p.body) ++ (p.body ++ p.padding))

-- parameters one after another
unfoldable pub wires_bytes : List WireParameter → List ℕ
wires_bytes ps = joined (map wire_bytes ps)

-- a whole parameter: type and L are of their widths, and "One takes 11 + L - (L + 3) mod 8 bytes in all."
pub record Whole (p : WireParameter) : Type 0 where
  pub type : p.kind < 2 ^ 16
  pub len : length p.body < 2 ^ 16
  pub padding : head_size + length p.body + length p.padding ≡ takes (length p.body)

-- "HOST_ID, HIP_MAC and HIP_SIGNATURE parameters follow, as they do on the wire"
abbrev pub following : List ℕ
following = host_id ∷ hip_mac ∷ hip_signature ∷ []

-- a parameter that may follow one of type `last`
pub record Follows (last : ℕ) (p : WireParameter) : Type 0 where
  pub whole : Whole p
  -- "types do not fall"
  pub after : last ≤ p.kind
  -- "each one of these three"
  pub type : list_any (eqb p.kind) following ≡ true

-- "any tail of whole parameters whose types do not fall, each one of these three", after one of type `last`
unfoldable pub Tail : (last : ℕ) → List WireParameter → Type 0
Tail last [] = Unit {0}
Tail last (p ∷ ps) = Follows last p × Tail p.kind ps
