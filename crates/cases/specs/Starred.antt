-- The cases that document 01 marks to be "proved together from the definitions, as one table under one claim", with order 3's in the place of one.
use Rattle.std.specs.Prelude.{ℕ, ◌≡◌, refl, true, List, [], ◌∷◌, ◌++◌, map, length, take, replicate, None, Ok, Option, Some}
use Rattle.parameter.specs.Parameters.{takes}
use Rattle.slot.specs.declared.Status.{Status}
use Rattle.slot.specs.declared.Status.TheVariants.{Active, Deprecated}
use Rattle.slot.specs.declared.Slot.{Slot}
use Rattle.slot.specs.Found.{empty_slot}
use Rattle.credit.specs.Clock.{aged_by}
use Rattle.association.specs.declared.Association.{Association}
use Rattle.association.specs.Form.{accepted}
use Rattle.association.specs.Start.{start_of}
use Rattle.payload.specs.Calls.{arrival_of, granted, denied, send_of}
use Rattle.clock.specs.Ticks.{tick_of}
use Rattle.reply_form.specs.Replies.{checks_bytes}
use Rattle.update.specs.Messages.{message_of}
use Rattle.update.specs.declared.Received.TheVariants.{Moved}
use Rattle.history.specs.ExamplesUnfolded.{calls}
use Rattle.cases.specs.Packets.{packet_of, address, locator, keymat_index, move_of}
use Rattle.cases.specs.Held.{held, checked}
use Rattle.cases.specs.Tables.{Seen, number, status, answer, sent, Case, ◌gives◌, status_after, message, told, declined, tick, passed}

-- ---- what is handed in
-- an association with the inbound SPI 0x1001
abbrev with : (time aged credit next : ℕ) → Option ℕ → List Slot → Association
with time aged credit next peer slots = record {
  outbound = 0x2001;
  inbound = 0x1001;
  time = time;
  aged = aged;
  credit = credit;
  peer = peer;
  next = next;
  preferred = Some 0;
  slots = slots;
}

-- address 1 alone
abbrev alone : Status → List Slot
alone s = held 1 s ∷ replicate 7 empty_slot

-- at time 100, with address 1 UNVERIFIED
abbrev waiting : (credit : ℕ) → Association
waiting credit = with 100 100 credit 3 None (alone (checked 9 2))

-- with address 1 ACTIVE
abbrev verified : (time aged credit : ℕ) → Association
verified time aged credit = with time aged credit 3 None (alone Active)

-- what a message below finds: "own ID 3, inbound SPI 0x1001"
abbrev found : Association
found = verified 100 100 1000

-- what a start at 100 leaves, with this lifetime
abbrev started_for : (lifetime : ℕ) → Association
started_for lifetime = (start_of 100 0x2001 0x1001 (address 1) lifetime).association

-- document 01's nonce, and others
abbrev nonces : List ℕ
nonces = 0x0102030405060708 ∷ 11 ∷ 12 ∷ 13 ∷ 14 ∷ 15 ∷ 16 ∷ 17 ∷ []

-- the shortest buffer that refusal 1 does not refuse
abbrev buffer : List ℕ
buffer = replicate 384 0xff

-- the shortest buffer that refusal 23 does not refuse
abbrev lent : List ℕ
lent = replicate 320 0xff

-- the first n of nine locators for 60 seconds, of addresses 1 to 9
abbrev several : (n : ℕ) → List (List ℕ)
several n = take n (map (locator 0 0 60) (1 ∷ 2 ∷ 3 ∷ 4 ∷ 5 ∷ 6 ∷ 7 ∷ 8 ∷ 9 ∷ []))

-- a Move with "Peer ID 7" that lists the first n of them with this NEW SPI
abbrev listing : (n new : ℕ) → List ℕ
listing n new = move_of 0x2001 new 7 (several n)

-- the message that brings this packet, marked authentic
abbrev brings : (packet : List ℕ) → Seen
brings packet = message found packet true nonces buffer

-- the association that is left by it
abbrev left : Association → (packet : List ℕ) → Association
left a packet = (message_of a packet true nonces buffer).association

-- ---- what is left
-- after eight locators: address 1 stays ACTIVE, and each of the others has a check
abbrev eight : Association
eight =
    with 100 100 1000 10 (Some 7)
    (held 1 Active
    ∷ held 2 (checked 0x0102030405060708 3)
    ∷ held 3 (checked 11 4)
    ∷ held 4 (checked 12 5)
    ∷ held 5 (checked 13 6)
    ∷ held 6 (checked 14 7)
    ∷ held 7 (checked 15 8)
    ∷ held 8 (checked 16 9)
    ∷ [])

-- after address 1 alone: the peer's Update ID is stored
abbrev acknowledged : Association
acknowledged = with 100 100 1000 3 (Some 7) (alone Active)

-- ---- the table
-- document 01's cases, each under its line
abbrev table : List Case
unfolding calls
table =
    -- "Credit 1,000: sending 1,000 gives 15; 999 is granted, credit 1."
    (sent (send_of (waiting 1000) 1000) gives sent (denied 15 (waiting 1000)))
    ∷ (sent (send_of (waiting 1000) 999) gives sent (granted 0 (waiting 1)))
    -- "Credit 1,048,000, arrival 1,500: 1,048,576."
    ∷ (answer (arrival_of (waiting 1048000) 1500) gives answer (accepted (waiting 1048576)))
    -- "Ageing 1,000 gives 875, then 765; 1 gives 0."
    ∷ (number (aged_by 1 1000) gives number 875)
    ∷ (number (aged_by 2 1000) gives number 765)
    ∷ (number (aged_by 1 1) gives number 0)
    -- "Last ageing 100: tick 104 keeps credit, 105 ages."
    ∷ (tick (verified 100 100 1000) 104 lent gives passed 0 (verified 104 100 1000) lent)
    ∷ (tick (verified 100 100 1000) 105 lent gives passed 0 (verified 105 105 875) lent)
    -- order 3, in the place of document 01's case at 117: "a tick 17 seconds after the last ageing holds three ageings: 1,000 becomes 669, and the last ageing
    -- stands at 15 seconds, leaving two towards the next": then 119 ages nothing and 120 once
    ∷ (tick (verified 100 100 1000) 117 lent gives passed 0 (verified 117 115 669) lent)
    ∷ (tick (verified 117 115 669) 119 lent gives passed 0 (verified 119 115 669) lent)
    ∷ (tick (verified 119 115 669) 120 lent gives passed 0 (verified 120 120 585) lent)
    -- "Lifetime 60 set at 100: kept at 159, DEPRECATED at 160.": set by a start, and by a Move where a start set 30
    ∷ (status_after (address 1) (tick_of (started_for 60) 159 lent).association gives status (Some Active))
    ∷ (status_after (address 1) (tick_of (started_for 60) 160 lent).association gives status (Some Deprecated))
    ∷ (status_after (address 1) (tick_of (left (started_for 30) (listing 1 0x2001)) 159 lent).association gives status (Some Active))
    ∷ (status_after (address 1) (tick_of (left (started_for 30) (listing 1 0x2001)) 160 lent).association gives status (Some Deprecated))
    -- "L of 24, 28, 56, 224 take 32, 32, 64, 232 bytes."
    ∷ (number (takes 24) gives number 32)
    ∷ (number (takes 28) gives number 32)
    ∷ (number (takes 56) gives number 64)
    ∷ (number (takes 224) gives number 232)
    -- "Eight locators pass; nine give 6.": seven of the eight are new, and the last 48 bytes of the buffer are untouched
    ∷ (brings (listing 8 0x2001) gives told (Ok Moved) 336 7 keymat_index eight (checks_bytes 0x1001 7 3 nonces 0 7 ++ replicate 48 0xff))
    ∷ (brings (listing 9 0x2001) gives declined 6 found buffer)
    -- "A 40-byte packet without parameters, authentic: 5."
    ∷ (number (length (packet_of [])) gives number 40)
    ∷ (brings (packet_of []) gives declined 5 found buffer)
    -- "Same message listing only an ACTIVE address: 01c10004 00000007."
    ∷ (brings (listing 1 0x2001) gives told (Ok Moved) 8 0 keymat_index acknowledged (1 ∷ 0xc1 ∷ 0 ∷ 4 ∷ 0 ∷ 0 ∷ 0 ∷ 7 ∷ replicate 376 0xff))
    -- "An ACTIVE address listed with a new SPI: UNVERIFIED."
    ∷ (status_after (address 1) (left found (listing 1 0x2002)) gives status (Some (checked 0x0102030405060708 3)))
    ∷ []

-- every case agrees with the definitions
agrees : map (λ (case : Case). case.asked) table ≡ map (λ (case : Case). case.given) table
unfolding table
agrees = refl
