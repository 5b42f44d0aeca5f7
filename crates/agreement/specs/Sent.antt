-- What goes over, and who hears it: the premises that the three packets have in common. The words in quotation marks are law 3's, in `Agreement.antt`.
use Rattle.std.specs.Prelude.{ℕ, ◌<◌, ◌≡◌, true, false, List, ◌++◌, length, None, Option, Some}
use Rattle.frame.specs.Header.{header_size, header_holds}
use Rattle.association.specs.declared.Association.{Association}
use Rattle.association.specs.Form.{refusal0}
use Rattle.update.specs.Refusals.{refusal1}
use Rattle.round_trip.specs.Wire.{WireParameter, wires_bytes, Tail}

module _ (header written : List ℕ) (tail : List WireParameter) where
  -- a header, what was written, and the parameters that follow
  abbrev pub packet_of : List ℕ
  packet_of = header ++ (written ++ wires_bytes tail)

  -- "behind a header": 40 bytes for which the header's rule holds of the whole. What was written ends with a parameter of type `last`, after which HIP_MAC and
  -- HIP_SIGNATURE may follow. HOST_ID may not follow 897 or 961, since types do not fall
  pub record Behind (last : ℕ) : Type 0 where
    pub long : length header ≡ header_size
    pub rule : header_holds packet_of ≡ true
    pub follow : Tail last tail

-- an association and a reply buffer of this length, which refusals 0 and 1 do not refuse
pub record Listens (a : Association) (room : ℕ) : Type 0 where
  pub unrefused0 : refusal0 a ≡ false
  pub unrefused1 : refusal1 room ≡ false

-- the "highest peer ID, if any, is below" this one
abbrev pub Below : Option ℕ → (id : ℕ) → Type 0
Below None id = Unit {0}
Below (Some highest) id = highest < id
