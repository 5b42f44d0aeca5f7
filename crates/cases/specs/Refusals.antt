-- For each refusal an input that earns it and no other; accepted messages; and inputs that earn two refusals, to show their order.
use Rattle.std.specs.Prelude.{ℕ, ◌^◌, ◌≡◌, refl, true, false, List, [], ◌∷◌, ◌++◌, map, replicate, None, Ok, Some}
use Rattle.parameter.specs.Written.{parameter_bytes}
use Rattle.slot.specs.declared.Status.TheVariants.{Active, Deprecated}
use Rattle.slot.specs.declared.Slot.{Slot}
use Rattle.slot.specs.Found.{empty_slot}
use Rattle.association.specs.declared.Association.{Association}
use Rattle.association.specs.Form.{refused}
use Rattle.association.specs.Start.{no_association, start_of}
use Rattle.payload.specs.Calls.{arrival_of, denied, send_of}
use Rattle.reply_form.specs.Replies.{checks_bytes}
use Rattle.update.specs.Messages.{message_of}
use Rattle.update.specs.declared.Received.TheVariants.{Moved, Repeated, Replied}
use Rattle.history.specs.ExamplesUnfolded.{calls}
use Rattle.cases.specs.Packets.{packet_of, esp, id_of, echo, address, locator, bound, set_of, keymat_index, move_parts, move_of, echoing_move, reply_of}
use Rattle.cases.specs.Held.{holding, checked}
use Rattle.cases.specs.Tables.{Seen, status, prefers, answer, sent, Case, ◌gives◌, status_after, message, told, declined, tick, passed, stopped}

-- ---- associations
-- the outbound SPI
abbrev outbound : ℕ
outbound = 0x2001

-- another SPI
abbrev other : ℕ
other = 0x2002

-- an association at time 100, where the last ageing was at 97
abbrev with : (credit peer next preferred : ℕ) → List Slot → Association
with credit peer next preferred slots = record {
  outbound = outbound;
  inbound = 0x1001;
  time = 100;
  aged = 97;
  credit = credit;
  peer = Some peer;
  next = next;
  preferred = Some preferred;
  slots = slots;
}

-- address 1 is ACTIVE, address 2 UNVERIFIED with nonce 9 outstanding, address 3 DEPRECATED
abbrev three : List Slot
three = holding 1 0 130 Active ∷ holding 2 0 130 (checked 9 2) ∷ holding 3 0 130 Deprecated ∷ replicate 5 empty_slot

-- what the calls find, unless they say otherwise: the highest Update ID seen is 6, and the next own one 3
abbrev found : Association
found = with 1000 6 3 0 three

-- the same with a credit over the limit
abbrev bad : Association
bad = with 1048577 6 3 0 three

-- the same with another next own Update ID
abbrev used : (next : ℕ) → Association
used next = with 1000 6 next 0 three

-- no carrier is ACTIVE or UNVERIFIED: address 1 is for signalling alone
abbrev closed : Association
closed = with 1000 6 3 0 (holding 1 1 130 Active ∷ holding 2 0 130 Deprecated ∷ replicate 6 empty_slot)

-- an UNVERIFIED carrier alone
abbrev waiting : Association
waiting = with 1000 6 3 0 (holding 1 0 130 Deprecated ∷ holding 2 0 130 (checked 9 2) ∷ replicate 6 empty_slot)

-- ---- messages
-- eight distinct nonces, none of them outstanding; the first is document 01's
abbrev nonces : List ℕ
nonces = 0x0102030405060708 ∷ 11 ∷ 12 ∷ 13 ∷ 14 ∷ 15 ∷ 16 ∷ 17 ∷ []

-- two of these are equal
abbrev equal : List ℕ
equal = 10 ∷ 11 ∷ 12 ∷ 13 ∷ 14 ∷ 15 ∷ 16 ∷ 10 ∷ []

-- the last of these is outstanding
abbrev pending : List ℕ
pending = 10 ∷ 11 ∷ 12 ∷ 13 ∷ 14 ∷ 15 ∷ 16 ∷ 9 ∷ []

-- the shortest buffer that is long enough
abbrev buffer : List ℕ
buffer = replicate 384 0xff

-- a byte too short
abbrev short : List ℕ
short = replicate 383 0xff

-- what a tick is lent
abbrev lent : List ℕ
lent = replicate 320 0xff

-- a locator for both kinds of traffic and 60 seconds, without P
abbrev plain : (n : ℕ) → List ℕ
plain n = locator 0 0 60 n

-- address 1; address 2 for data and 90 seconds, with P; address 4, which is new, for 300 seconds
abbrev listed : List (List ℕ)
listed = plain 1 ∷ locator 2 1 90 2 ∷ locator 0 0 300 4 ∷ []

-- address 1 with lifetime 0
abbrev expired : List (List ℕ)
expired = locator 0 0 0 1 ∷ []

-- a Move that no refusal refuses
abbrev good : List ℕ
good = move_of outbound outbound 7 listed

-- its ESP_INFO
abbrev good_esp : List ℕ
good_esp = esp keymat_index outbound outbound

-- a parameter of an odd type that is not known
abbrev unknown : List ℕ
unknown = parameter_bytes 67 []

-- a Move whose types fall
abbrev falling : List ℕ
falling = packet_of (good_esp ++ (id_of 7 ++ set_of listed))

-- the preference after a Move of address 1, 2 and 4, which takes slot 2, where slot n was preferred; address 4 with P or without it (1 or 0)
abbrev preferring : (n p : ℕ) → Seen
preferring n p =
    prefers (message_of (with 1000 6 3 n three) (move_of outbound outbound 7 (plain 1 ∷ plain 2 ∷ locator 0 p 60 4 ∷ [])) true nonces buffer).association.preferred

-- the message that brings this packet, with all else as for an accepted one
abbrev brings : (packet : List ℕ) → Seen
brings packet = message found packet true nonces buffer

-- that it is refused by this number
abbrev refuses : (why : ℕ) → Seen
refuses why = declined why found buffer

-- ---- what accepted messages leave and write
-- the good Move: address 1 is renewed, address 2 keeps its check and is preferred, and address 4 takes the slot of address 3
abbrev moved : Association
moved =
    with 1000 7 4 1
    (holding 1 0 160 Active ∷ holding 2 2 190 (checked 9 2) ∷ holding 4 0 400 (checked 0x0102030405060708 3) ∷ replicate 5 empty_slot)

-- "0041000c 00000000 00001001 00001001 01810004 00000003 01c10004 00000007 03810008 01020304 05060708 00000000"
abbrev one_check : List ℕ
one_check =
    0 ∷ 0x41 ∷ 0 ∷ 0x0c ∷ 0 ∷ 0 ∷ 0 ∷ 0 ∷ 0 ∷ 0 ∷ 0x10 ∷ 1 ∷ 0 ∷ 0 ∷ 0x10 ∷ 1
    ∷ 1 ∷ 0x81 ∷ 0 ∷ 4 ∷ 0 ∷ 0 ∷ 0 ∷ 3
    ∷ 1 ∷ 0xc1 ∷ 0 ∷ 4 ∷ 0 ∷ 0 ∷ 0 ∷ 7
    ∷ 3 ∷ 0x81 ∷ 0 ∷ 8 ∷ 1 ∷ 2 ∷ 3 ∷ 4 ∷ 5 ∷ 6 ∷ 7 ∷ 8 ∷ 0 ∷ 0 ∷ 0 ∷ 0
    ∷ []

-- a Reply that echoes nonce 9: address 2 is ACTIVE
abbrev replied : Association
replied = with 1000 6 3 0 (holding 1 0 130 Active ∷ holding 2 0 130 Active ∷ holding 3 0 130 Deprecated ∷ replicate 5 empty_slot)

-- a Move that echoes nonce 9 and lists addresses 1, 2, 4 and then 3: address 4 does not take the slot of address 3, and the checks go in slot order
abbrev relisted : Association
relisted =
    with 1000 7 5 0
    (holding 1 0 160 Active
    ∷ holding 2 0 160 Active
    ∷ holding 3 0 160 (checked 0x0102030405060708 3)
    ∷ holding 4 0 160 (checked 11 4)
    ∷ replicate 4 empty_slot)

-- Repeated: the ACK of Update ID 6, and nothing changed
abbrev repeats : Seen
repeats = told (Ok Repeated) 8 0 0 found (1 ∷ 0xc1 ∷ 0 ∷ 4 ∷ 0 ∷ 0 ∷ 0 ∷ 6 ∷ replicate 376 0xff)

-- ---- the table
-- inputs and their answers
abbrev table : List Case
unfolding calls
table =
    -- an accepted Move: "Peer ID 7, own ID 3, inbound SPI 0x1001, nonce 0102030405060708, one check"
    (brings good gives told (Ok Moved) 48 1 keymat_index moved (one_check ++ replicate 336 0xff))
    -- one that echoes, with two checks
    ∷ (brings (echoing_move outbound outbound 7 (plain 1 ∷ plain 2 ∷ plain 4 ∷ plain 3 ∷ []) 9)
    gives told (Ok Moved) 96 2 keymat_index relisted (checks_bytes 0x1001 7 3 nonces 0 2 ++ replicate 288 0xff))
    -- "What follows in the same message may retire it again.": the echo turns address 2 ACTIVE, the new SPI DEPRECATED, and listed it has a new check
    ∷ (status_after (address 2) (message_of found (echoing_move outbound other 7 (bound other 2 ∷ []) 9) true nonces buffer).association
    gives status (Some (checked 0x0102030405060708 3)))
    -- "A preference for a refilled slot is dropped.", and another stays; "The locator with P becomes preferred"
    ∷ (preferring 2 0 gives prefers None)
    ∷ (preferring 0 0 gives prefers (Some 0))
    ∷ (preferring 0 1 gives prefers (Some 2))
    ∷ (preferring 2 1 gives prefers (Some 2))
    -- an accepted Reply; and one with eight equal nonces, one of them outstanding: refusal 10 is "for a Move"
    ∷ (brings (reply_of 9) gives told (Ok Replied) 0 0 0 replied buffer)
    ∷ (message found (reply_of 9) true (replicate 8 9) buffer gives told (Ok Replied) 0 0 0 replied buffer)
    -- "A Move whose ID equals the highest seen is Repeated", also one that refusals 8 and 9 would refuse
    ∷ (brings (move_of outbound outbound 6 listed) gives repeats)
    ∷ (brings (echoing_move other outbound 6 listed 10) gives repeats)
    -- 0: "credit over the limit", in each call but start
    ∷ (message bad good true nonces buffer gives declined 0 bad buffer)
    ∷ (answer (arrival_of bad 1) gives answer (refused 0 bad))
    ∷ (sent (send_of bad 1) gives sent (denied 0 bad))
    ∷ (tick bad 100 lent gives stopped 0 bad lent)
    -- 1: "reply buffer below 384 bytes"
    ∷ (message found good true nonces short gives declined 1 found short)
    -- 2: "not marked authentic"
    ∷ (message found good false nonces buffer gives refuses 2)
    -- 3: "falling type"
    ∷ (brings falling gives refuses 3)
    -- 4: "odd type not known"
    ∷ (brings (packet_of (good_esp ++ (unknown ++ (set_of listed ++ id_of 7)))) gives refuses 4)
    -- 5: none of the three kinds, with a second echo response
    ∷ (brings (packet_of (move_parts outbound outbound 7 listed ++ (echo 9 ++ echo 9))) gives refuses 5)
    -- 6: "lifetime 0"
    ∷ (brings (move_of outbound outbound 7 expired) gives refuses 6)
    -- 7: "Update ID below the highest seen"
    ∷ (brings (move_of outbound outbound 5 listed) gives refuses 7)
    -- 8: "echo response matches no outstanding nonce", in a Move and in a Reply
    ∷ (brings (echoing_move outbound outbound 7 listed 10) gives refuses 8)
    ∷ (brings (reply_of 10) gives refuses 8)
    -- 9: "a Move's OLD SPI not the outbound SPI, NEW SPI 0, or a type 1 locator's SPI not NEW SPI"
    ∷ (brings (move_of other outbound 7 listed) gives refuses 9)
    ∷ (brings (move_of outbound 0 7 listed) gives refuses 9)
    ∷ (brings (move_of outbound outbound 7 (bound other 2 ∷ [])) gives refuses 9)
    -- 10: "not distinct from each other and from those outstanding before", also where the Move brings no new check, and where it answers the nonce
    ∷ (message found good true equal buffer gives refuses 10)
    ∷ (message found good true pending buffer gives refuses 10)
    ∷ (message found (move_of outbound outbound 7 (plain 1 ∷ [])) true pending buffer gives refuses 10)
    ∷ (message found (echoing_move outbound outbound 7 listed 9) true pending buffer gives refuses 10)
    -- 11: "next own ID + new checks over 2^32"; a Move without new checks is accepted, and the last own ID may be used
    ∷ (message (used (2 ^ 32)) good true nonces buffer gives declined 11 (used (2 ^ 32)) buffer)
    ∷ (message (used (2 ^ 32)) (move_of outbound outbound 7 (plain 1 ∷ [])) true nonces buffer
    gives told (Ok Moved) 8 0 keymat_index (with 1000 7 (2 ^ 32) 0 (holding 1 0 160 Active ∷ holding 2 0 130 Deprecated ∷ holding 3 0 130 Deprecated ∷ replicate 5 empty_slot))
    (1 ∷ 0xc1 ∷ 0 ∷ 4 ∷ 0 ∷ 0 ∷ 0 ∷ 7 ∷ replicate 376 0xff))
    ∷ (status_after (address 4) (message_of (used 4294967295) good true nonces buffer).association
    gives status (Some (checked 0x0102030405060708 4294967295)))
    -- 12: "time before the stored time, or 2^40 or more"
    ∷ (tick found 99 lent gives stopped 12 found lent)
    ∷ (tick found (2 ^ 40) lent gives stopped 12 found lent)
    -- 23: "Tick now needs a 320-byte buffer", and one with as many is accepted
    ∷ (tick found 100 (replicate 319 0xff) gives stopped 23 found (replicate 319 0xff))
    ∷ (tick found 100 lent gives passed 0 found lent)
    -- 13: "size outside the limit", of an arrival and of a send
    ∷ (answer (arrival_of found 0) gives answer (refused 13 found))
    ∷ (sent (send_of found 65536) gives sent (denied 13 found))
    -- 14: "no carrier ACTIVE or UNVERIFIED"
    ∷ (sent (send_of closed 1) gives sent (denied 14 closed))
    -- 15: "UNVERIFIED chosen, credit not higher"
    ∷ (sent (send_of waiting 1000) gives sent (denied 15 waiting))
    -- 16: "lifetime 0 .. (then no association)"
    ∷ (answer (start_of 100 outbound 0x1001 (address 1) 0) gives answer (refused 16 no_association))
    -- where two are earned, the first is given: 0 and 1, 1 and 2, 2 and 3, 3 and 4, 4 and 5, 5 and 6, 6 and 7
    ∷ (message bad good true nonces short gives declined 0 bad short)
    ∷ (message found good false nonces short gives declined 1 found short)
    ∷ (message found falling false nonces buffer gives refuses 2)
    ∷ (brings (packet_of (good_esp ++ (unknown ++ (id_of 7 ++ set_of listed)))) gives refuses 3)
    ∷ (brings (packet_of unknown) gives refuses 4)
    ∷ (brings (packet_of (good_esp ++ (set_of expired ++ (set_of listed ++ id_of 7)))) gives refuses 5)
    ∷ (brings (move_of outbound outbound 5 expired) gives refuses 6)
    -- 7 and 8, 7 and 9, 8 and 9, 9 and 10, 10 and 11
    ∷ (brings (echoing_move outbound outbound 5 listed 10) gives refuses 7)
    ∷ (brings (move_of other outbound 5 listed) gives refuses 7)
    ∷ (brings (echoing_move other outbound 7 listed 10) gives refuses 8)
    ∷ (message found (move_of other outbound 7 listed) true equal buffer gives refuses 9)
    ∷ (message (used (2 ^ 32)) good true equal buffer gives declined 10 (used (2 ^ 32)) buffer)
    -- 0 and 12, 0 and 23, 23 and 12, 0 and 13, 13 and 14, 13 and 15
    ∷ (tick bad 99 lent gives stopped 0 bad lent)
    ∷ (tick bad 100 [] gives stopped 0 bad [])
    ∷ (tick found 99 (replicate 319 0xff) gives stopped 23 found (replicate 319 0xff))
    ∷ (sent (send_of bad 0) gives sent (denied 0 bad))
    ∷ (sent (send_of closed 0) gives sent (denied 13 closed))
    ∷ (sent (send_of waiting 65536) gives sent (denied 13 waiting))
    ∷ []

-- every case agrees with the definitions
agrees : map (λ (case : Case). case.asked) table ≡ map (λ (case : Case). case.given) table
unfolding table
agrees = refl
