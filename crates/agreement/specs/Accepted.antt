-- Law 3, its first part, in the words of `Agreement.antt`: the announcement "is accepted by a peer's association". The claim and its premises;
-- `proofs/Accepted.antt` proves it.
use Rattle.std.specs.Prelude.{ℕ, ◌≡◌, true, false, List, take}
use Rattle.readdress.specs.Checks.{refusal10}
use Rattle.association.specs.declared.Association.{Association}
use Rattle.announcement.specs.declared.OwnLocator.{OwnLocator}
use Rattle.update.specs.Refusals.{refusal11}
use Rattle.update.specs.Messages.{checks_of, moved, handled}
use Rattle.round_trip.specs.Wire.{WireParameter}
use Rattle.round_trip.specs.Read.{sent_packet, Sent, announced_fields, announced_list}
use Rattle.agreement.specs.Sent.{Listens, Below}

-- the premises: of a peer's association b, its nonces, and the length of its reply buffer
pub record Awaits (a : Association) (es : List OwnLocator) (inbound keymat : ℕ) (b : Association) (nonces : List ℕ) (room : ℕ) : Type 0 where
  -- "whose outbound SPI is our old inbound SPI"
  pub outbound : b.outbound ≡ a.inbound
  -- "whose highest peer ID, if any, is below the announcement's"
  pub below : Below b.peer a.next
  -- "and which refusals 0, 1, 10 and 11 do not refuse"
  pub listens : Listens b room
  pub unrefused10 : refusal10 nonces b.slots ≡ false
  pub unrefused11 : refusal11 b.next (checks_of b (announced_fields a inbound keymat) (announced_list es inbound)) ≡ false

-- "what an accepted announcement writes, behind a header and marked authentic, is accepted": by steps 1 to 7 of the Move that we meant
abbrev pub IsAccepted : Type 0
IsAccepted =
    (a : Association) (list : List OwnLocator) (count inbound keymat room : ℕ) (header : List ℕ) (tail : List WireParameter)
    → Sent a list count inbound keymat room header tail
    → (b : Association) (nonces : List ℕ) (peer_room : ℕ)
    → Awaits a (take count list) inbound keymat b nonces peer_room
    → handled b (sent_packet a list count inbound keymat room header tail) true nonces peer_room
    ≡ moved b (announced_fields a inbound keymat) (announced_list (take count list) inbound) nonces
