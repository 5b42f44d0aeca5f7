-- Two of our associations change addresses with each other: RFC 8046, section 3.2.1, with the SPI changed. We announce address 2, the peer checks it, we
-- answer, and it is ACTIVE there.
use Rattle.std.specs.Prelude.{ℕ, ◌+◌, ◌≡◌, refl, true, List, [], ◌∷◌, map, take, replicate, Ok, Some}
use Rattle.slot.specs.declared.Status.TheVariants.{Active}
use Rattle.association.specs.declared.Association.{Association}
use Rattle.association.specs.Start.{started}
use Rattle.announcement.specs.declared.OwnLocator.{OwnLocator}
use Rattle.announcement.specs.Announcements as announcements
use Rattle.update.specs.Messages.{message_of, buffer_after}
use Rattle.update.specs.declared.MessageAnswer.{MessageAnswer}
use Rattle.update.specs.declared.Received.TheVariants.{Moved, Replied, Responded}
use Rattle.history.specs.ExamplesUnfolded.{calls}
use Rattle.cases.specs.Packets.{packet_of, address}
use Rattle.cases.specs.Held.{checked}
use Rattle.cases.specs.Tables.{status, status_after}

-- ours, which knows the peer at address 9, and the peer's, which knows us at address 1: each one's inbound SPI is the other's outbound one
abbrev ours : Association
ours = started 100 0x2001 0x1001 (address 9) 600

abbrev peers : Association
peers = started 100 0x1001 0x2001 (address 1) 600

-- our list: address 2 for 60 seconds with P
abbrev list : List OwnLocator
list = replicate 8 (record { address = address 2; lifetime = 60; kind = 0; traffic = 0; preferred = true })

abbrev buffer : List ℕ
buffer = replicate 384 0xff

-- the packet that goes over: what was written, behind a header
abbrev over : (written : ℕ) → (buffer : List ℕ) → List ℕ
over written buffer = packet_of (take written buffer)

-- a message, marked authentic, with eight nonces
abbrev hears : Association → (packet : List ℕ) → MessageAnswer
hears a packet = message_of a packet true (map (λ (k : ℕ). 0x51 + k) (0 ∷ 1 ∷ 2 ∷ 3 ∷ 4 ∷ 5 ∷ 6 ∷ 7 ∷ [])) buffer

abbrev writes : Association → (packet : List ℕ) → List ℕ
writes a packet = over (hears a packet).written (buffer_after a packet true (map (λ (k : ℕ). 0x51 + k) (0 ∷ 1 ∷ 2 ∷ 3 ∷ 4 ∷ 5 ∷ 6 ∷ 7 ∷ [])) buffer)

-- we announce, with the new inbound SPI 0x1002; the packet; what we are afterwards
abbrev announcement : List ℕ
announcement =
    over (announcements.announcement_of ours list 1 0x1002 0 buffer).written (announcements.buffer_after ours list 1 0x1002 0 buffer)

abbrev waiting : Association
waiting = (announcements.announcement_of ours list 1 0x1002 0 buffer).association

-- the peer's check, and the peer's association with it
abbrev check : List ℕ
check = writes peers announcement

abbrev checking : Association
checking = (hears peers announcement).association

-- our answer to it
abbrev response : List ℕ
response = writes waiting check

-- each is accepted; address 2 is UNVERIFIED with the peer, and then ACTIVE
changes : ((hears peers announcement).outcome ≡ Ok Moved)
    × (status_after (address 2) checking ≡ status (Some (checked 0x51 0)))
    × ((hears waiting check).outcome ≡ Ok Responded)
    × ((hears checking response).outcome ≡ Ok Replied)
    × (status_after (address 2) (hears checking response).association ≡ status (Some Active))
    × (checking.outbound ∷ waiting.inbound ∷ [] ≡ 0x1002 ∷ 0x1002 ∷ [])
unfolding calls
changes = (refl, refl, refl, refl, refl, refl)
