-- Law 1, order 1's "Reading what we wrote gives back the list.", in full, as the comments below quote it: for every accepted announcement and every 40-byte header
-- before the written bytes for which the header's rule holds of the whole, the packet reads as a Move with these SPIs, this KEYMAT Index, this ID, no echo
-- response, and exactly the list (type 1 entries with the new SPI); also where HOST_ID, HIP_MAC and HIP_SIGNATURE parameters follow, as they do on the wire: any
-- tail of whole parameters whose types do not fall, each one of these three. The claim and its premises; `proofs/Read.antt` proves it.
use Rattle.std.specs.Prelude.{ℕ, ◌^◌, ◌<◌, ◌≡◌, true, List, ◌++◌, map, length, take, Ok, Result}
use Rattle.refusal.specs.declared.Refusal.{Refusal}
use Rattle.parameter.specs.Types.{seq}
use Rattle.frame.specs.Header.{header_size, header_holds}
use Rattle.locator_set.specs.Sets.{padded}
use Rattle.locator_set.specs.declared.LocatorSet.{LocatorSet}
use Rattle.locator.specs.declared.ListedLocator.{ListedLocator}
use Rattle.packet.specs.declared.EchoResponse.TheVariants.{Absent}
use Rattle.packet.specs.declared.MoveFields.{MoveFields}
use Rattle.packet.specs.declared.Message.{Message}
use Rattle.packet.specs.declared.Message.TheVariants.{Move}
use Rattle.packet.specs.Readings.{reading_of}
use Rattle.association.specs.declared.Association.{Association}
use Rattle.announcement.specs.declared.OwnLocator.{OwnLocator}
use Rattle.announcement.specs.Announcements.{handled}
use Rattle.announcement.specs.Sized.{AllSized}
use Rattle.announcement.specs.Listed.{as_listed}
use Rattle.round_trip.specs.Wire.{WireParameter, wires_bytes, Tail}

module _ (a : Association) (list : List OwnLocator) (count inbound keymat room : ℕ) (header : List ℕ) (tail : List WireParameter) where
  -- a header, what the call writes, and the parameters that follow
  abbrev pub sent_packet : List ℕ
  sent_packet = header ++ ((handled a list count inbound keymat room).bytes ++ wires_bytes tail)

  -- the premises
  pub record Sent : Type 0 where
    -- "every accepted announcement"
    pub accepted : (handled a list count inbound keymat room).outcome ≡ (Ok tt)
    -- the numbers are of the widths that the call's types hold them to
    pub sized : AllSized (take count list)
    pub old : a.inbound < 2 ^ 32
    pub new : inbound < 2 ^ 32
    pub index : keymat < 2 ^ 16
    -- "every 40-byte header before the written bytes for which the header's rule holds of the whole"
    pub long : length header ≡ header_size
    pub rule : header_holds sent_packet ≡ true
    -- "also where HOST_ID, HIP_MAC and HIP_SIGNATURE parameters follow": none of them, or any
    pub follow : Tail seq tail

-- "with these SPIs, this KEYMAT Index, this ID, no echo response"
abbrev pub announced_fields : Association → (inbound keymat : ℕ) → MoveFields
announced_fields a inbound keymat = record { keymat = keymat; old = a.inbound; new = inbound; id = a.next; echo = Absent }

-- "exactly the list (type 1 entries with the new SPI)"
abbrev pub announced_list : List OwnLocator → (inbound : ℕ) → List ListedLocator
announced_list es inbound = map (as_listed inbound) es

-- as the set that is read
abbrev pub announced_set : List OwnLocator → (inbound : ℕ) → LocatorSet
announced_set es inbound = record { listed = padded (announced_list es inbound); count = length es }

-- "the packet reads as a Move" with these
abbrev pub announced_move : Association → List OwnLocator → (inbound keymat : ℕ) → Result Message Refusal
announced_move a es inbound keymat = Ok (Move (announced_fields a inbound keymat) (announced_set es inbound))

-- "Reading what we wrote gives back the list."
abbrev pub GivesBackTheList : Type 0
GivesBackTheList =
    (a : Association) (list : List OwnLocator) (count inbound keymat room : ℕ) (header : List ℕ) (tail : List WireParameter)
    → Sent a list count inbound keymat room header tail
    → reading_of (sent_packet a list count inbound keymat room header tail) ≡ announced_move a (take count list) inbound keymat
