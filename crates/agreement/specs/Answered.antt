-- Law 3, its third part, in the words of `Agreement.antt`: our answer "is a Reply to it that turns that address ACTIVE". The claim and its premises;
-- `proofs/Answered.antt` proves it.
use Rattle.std.specs.Prelude.{ℕ, ◌^◌, ◌<◌, ◌≡◌, true, List, Some}
use Rattle.octets.specs.Written.{bytes_of}
use Rattle.address.specs.declared.Address.{Address}
use Rattle.parameter.specs.Types.{echo_response_signed, nonce_size}
use Rattle.slot.specs.declared.Check.{Check}
use Rattle.slot.specs.declared.Status.TheVariants.{Unverified, Active}
use Rattle.slot.specs.Found.{status_in}
use Rattle.packet.specs.declared.EchoResponse.TheVariants.{Nonce}
use Rattle.reply_form.specs.Replies.{response_bytes}
use Rattle.association.specs.declared.Association.{Association}
use Rattle.update.specs.Messages.{after_reply, replied, handled}
use Rattle.round_trip.specs.Wire.{WireParameter}
use Rattle.agreement.specs.Sent.{packet_of, Behind, Listens}

-- the premises: of the peer's association d, the length of its reply buffer, an address, and the check that the address has there
pub record Checking (d : Association) (room : ℕ) (x : Address) (check : Check) : Type 0 where
  pub listens : Listens d room
  pub unverified : status_in x d.slots ≡ Some (Unverified check)
  -- the number is of its width
  pub sized : check.nonce < 2 ^ 64

-- "what we answer, behind a header, is a Reply to it that turns that address ACTIVE"
abbrev pub TurnsActive : Type 0
TurnsActive =
    (id : ℕ) (check : Check) (header : List ℕ) (tail : List WireParameter)
    → Behind header (response_bytes id (bytes_of nonce_size check.nonce)) tail echo_response_signed
    → (d : Association) (nonces : List ℕ) (room : ℕ) (x : Address) → Checking d room x check
    → (handled d (packet_of header (response_bytes id (bytes_of nonce_size check.nonce)) tail) true nonces room ≡ replied d (Nonce check.nonce))
    × (status_in x (after_reply d (Nonce check.nonce)).slots ≡ Some Active)
