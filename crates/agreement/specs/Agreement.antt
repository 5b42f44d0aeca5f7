-- Law 3: two of ours agree. In full, as the comments here and in the other files quote it: what an accepted announcement writes, behind a header and marked authentic,
-- is accepted by a peer's association whose outbound SPI is our old inbound SPI, whose highest peer ID, if any, is below the announcement's, and which refusals 0,
-- 1, 10 and 11 do not refuse; and the check that it writes for a new address, behind a header, is a Check to us, accepted where our highest peer ID, if any, is
-- below the check's; and what we answer, behind a header, is a Reply to it that turns that address ACTIVE. The claim and its premises; `proofs/Agreement.antt`
-- proves it.
use Rattle.std.specs.Prelude.{ℕ, ◌+◌, ◌^◌, ◌<◌, ◌≡◌, Bool, true, false, not, ◌||◌, List, length, take, None, Ok, Option, Some}
use Rattle.address.specs.declared.Address.{Address}
use Rattle.parameter.specs.Types.{echo_request_signed, echo_response_signed}
use Rattle.locator.specs.declared.ListedLocator.{ListedLocator}
use Rattle.slot.specs.declared.Status.{Status}
use Rattle.slot.specs.declared.Status.TheVariants.{Unverified, Active, Deprecated}
use Rattle.slot.specs.Found.{slot_count, status_in}
use Rattle.packet.specs.declared.MoveFields.{MoveFields}
use Rattle.readdress.specs.Steps.{is_listed}
use Rattle.readdress.specs.Checks.{checked_by}
use Rattle.reply_form.specs.Replies.{nonce_count}
use Rattle.association.specs.declared.Association.{Association}
use Rattle.announcement.specs.declared.OwnLocator.{OwnLocator}
use Rattle.announcement.specs.Announcements as announcements
use Rattle.update.specs.Refusals.{refusal1}
use Rattle.update.specs.Messages.{Handled, differs, handled}
use Rattle.update.specs.declared.Received.TheVariants.{Moved, Replied, Responded}
use Rattle.round_trip.specs.Each.{Each}
use Rattle.round_trip.specs.Wire.{WireParameter}
use Rattle.round_trip.specs.Read.{Sent, announced_fields, announced_list}
use Rattle.agreement.specs.Sent.{packet_of, Behind, Below}
use Rattle.agreement.specs.Accepted.{Awaits}
use Rattle.agreement.specs.Checked.{check_in}

-- ---- what was written goes over, and is heard
-- the header and the parameters that follow; the nonces and the length of the reply buffer that are lent to the one who hears it
pub record Delivery : Type 0 where
  pub header : List ℕ
  pub tail : List WireParameter
  pub nonces : List ℕ
  pub room : ℕ

-- "behind a header", and a buffer that refusal 1 does not refuse; what was written ends with a parameter of type `last`
pub record Delivered (w : Delivery) (written : List ℕ) (last : ℕ) : Type 0 where
  pub behind : Behind w.header written w.tail last
  pub unrefused1 : refusal1 w.room ≡ false

-- the answer to it, "marked authentic"
abbrev pub hears : Association → (written : List ℕ) → Delivery → Handled
hears c written w = handled c (packet_of w.header written w.tail) true w.nonces w.room

-- ---- an announcement, and what comes of it
-- our association, our list and how many of its entries count, the new inbound SPI, the KEYMAT Index and the length of the buffer; the delivery of what is
-- written; the peer's association
pub record Meeting : Type 0 where
  pub ours : Association
  pub list : List OwnLocator
  pub count : ℕ
  pub inbound : ℕ
  pub keymat : ℕ
  pub room : ℕ
  pub over : Delivery
  pub peers : Association

module _ (e : Meeting) where
  -- the entries that are announced, and what is to be read of them
  abbrev pub entries : List OwnLocator
  entries = take e.count e.list

  abbrev pub fields : MoveFields
  fields = announced_fields e.ours e.inbound e.keymat

  abbrev pub listed : List ListedLocator
  listed = announced_list entries e.inbound

  -- what we write, and our association after it
  abbrev pub announcement : announcements.Announced
  announcement = announcements.handled e.ours e.list e.count e.inbound e.keymat e.room

  -- what the peer answers, and its association after it
  abbrev pub reception : Handled
  reception = hears e.peers announcement.bytes e.over

  module _ (k : ℕ) where
    -- check k of its reply, and its Update ID
    abbrev pub check : List ℕ
    check = check_in reception.reply k

    abbrev pub check_id : ℕ
    check_id = e.peers.next + k

    -- what we answer to the check
    abbrev pub response : Delivery → Handled
    response w = hears announcement.left check w

    -- what the peer answers to that
    abbrev pub ending : (w v : Delivery) → Handled
    ending w v = hears reception.left (response w).reply v

-- ---- the law
-- an address is ACTIVE or UNVERIFIED
abbrev pub in_use : Option Status → Bool
in_use None = false
in_use (Some (Unverified k)) = true
in_use (Some Active) = true
in_use (Some Deprecated) = false

-- the premises
pub record Meets (e : Meeting) : Type 0 where
  -- "an accepted announcement .., behind a header"
  pub sent : Sent e.ours e.list e.count e.inbound e.keymat e.room e.over.header e.over.tail
  -- "a peer's association whose outbound SPI is our old inbound SPI, whose highest peer ID, if any, is below the announcement's, and which refusals 0, 1, 10 and 11
  -- do not refuse"
  pub awaits : Awaits e.ours (entries e) e.inbound e.keymat e.peers e.over.nonces e.over.room
  -- what the declared types hold them to
  pub slots : length e.ours.slots ≡ slot_count
  pub peer_slots : length e.peers.slots ≡ slot_count
  pub eight : length e.over.nonces ≡ nonce_count
  pub sized : Each (λ (nonce : ℕ). nonce < 2 ^ 64) e.over.nonces

-- "a new address": one that we list and that is neither ACTIVE nor UNVERIFIED with the peer, and any that we list where NEW SPI differs
pub record New (e : Meeting) (x : Address) : Type 0 where
  pub is_listed_lem : is_listed x (listed e) ≡ true
  pub is_new : (differs e.peers (fields e) || not (in_use (status_in x e.peers.slots))) ≡ true

-- the conclusion
pub record Agrees (e : Meeting) (x : Address) : Type 0 where
  -- the announcement "is accepted by a peer's association"
  pub accepted : (reception e).outcome ≡ Ok Moved
  -- "the check that it writes for a new address" is check k, which the address has there
  pub k : ℕ
  pub written : k < (reception e).checks
  pub checks : status_in x (reception e).left.slots ≡ Some (checked_by e.peers.time e.peers.next e.over.nonces k)
  -- "behind a header, is a Check to us, accepted where our highest peer ID, if any, is below the check's"
  pub answered : (w : Delivery) → Delivered w (check e k) echo_request_signed → Below (announcement e).left.peer (check_id e k)
      → (response e k w).outcome ≡ Ok Responded
  -- "and what we answer, behind a header, is a Reply to it that turns that address ACTIVE"
  pub verified : (w v : Delivery) → Delivered w (check e k) echo_request_signed → Below (announcement e).left.peer (check_id e k)
      → Delivered v (response e k w).reply echo_response_signed
      → ((ending e k w v).outcome ≡ Ok Replied) × (status_in x (ending e k w v).left.slots ≡ Some Active)

-- Two of ours agree
abbrev pub TwoOfOursAgree : Type 0
TwoOfOursAgree = (e : Meeting) → Meets e → (x : Address) → New e x → Agrees e x
