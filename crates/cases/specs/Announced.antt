-- Order 1: for each of its refusals an input that earns it and no other, accepted announcements and Checks, and inputs that earn two refusals, to show their
-- order. Refusal 20 and the last own Update ID, which no trace reaches, are among them.
use Rattle.std.specs.Prelude.{ℕ, ◌^◌, ◌≡◌, refl, Bool, true, false, List, [], ◌∷◌, ◌++◌, map, replicate, Err, Ok, Some}
use Rattle.refusal.specs.Table.{refusal}
use Rattle.octets.specs.ExamplesHex.{hex}
use Rattle.parameter.specs.Types.{echo_request_signed}
use Rattle.parameter.specs.Written.{parameter_bytes}
use Rattle.slot.specs.declared.Status.TheVariants.{Active}
use Rattle.slot.specs.Found.{empty_slot}
use Rattle.association.specs.declared.Association.{Association}
use Rattle.announcement.specs.declared.OwnLocator.{OwnLocator}
use Rattle.announcement.specs.Announcements.{announcement_of, buffer_after}
use Rattle.update.specs.declared.Received.TheVariants.{Repeated, Responded}
use Rattle.history.specs.ExamplesUnfolded.{calls}
use Rattle.cases.specs.Packets.{packet_of, esp, id_of, echo, address, locator, set_of}
use Rattle.cases.specs.Held.{holding, checked}
use Rattle.cases.specs.Tables.{Seen, announced, Case, ◌gives◌, message, told, declined}

-- ---- announcements
-- an association at time 100 with this credit, inbound SPI, highest Update ID and next own one
abbrev with : (credit inbound peer next : ℕ) → Association
with credit inbound peer next = record {
  outbound = 0x2001;
  inbound = inbound;
  time = 100;
  aged = 97;
  credit = credit;
  peer = Some peer;
  next = next;
  preferred = Some 0;
  slots = holding 1 0 130 Active ∷ holding 2 0 130 (checked 9 2) ∷ replicate 6 empty_slot;
}

-- what the calls find, unless they say otherwise
abbrev found : Association
found = with 1000 0x1001 6 3

-- the same with a credit over the limit, and with another next own Update ID
abbrev bad : Association
bad = with 1048577 0x1001 6 3

abbrev used : (next : ℕ) → Association
used next = with 1000 0x1001 6 next

-- our address n, by its locator type, traffic type, lifetime and P
abbrev own : (kind traffic lifetime : ℕ) → Bool → (n : ℕ) → OwnLocator
own kind traffic lifetime p n = record { address = address n; lifetime = lifetime; kind = kind; traffic = traffic; preferred = p }

-- a list of eight, of type 1 for 60 seconds
abbrev eight : List OwnLocator
eight = map (own 1 0 60 false) (1 ∷ 2 ∷ 3 ∷ 4 ∷ 5 ∷ 6 ∷ 7 ∷ 8 ∷ [])

-- these entries, and others after them that would be refused
abbrev filled : List OwnLocator → List OwnLocator
filled es = es ++ replicate 7 (own 2 3 0 true 9)

-- the call, with KEYMAT Index 513
abbrev announces : Association → (list : List OwnLocator) → (count inbound : ℕ) → (buffer : List ℕ) → Seen
announces a list count inbound buffer = announced (announcement_of a list count inbound 513 buffer) (buffer_after a list count inbound 513 buffer)

-- it is accepted, leaves this association, and has written so many bytes
abbrev tells : (written : ℕ) → Association → (buffer : List ℕ) → Seen
tells written a buffer = announced (record { outcome = Ok tt; written = written; association = a }) buffer

-- it is refused by this number, and all is as lent
abbrev refuses : (why : ℕ) → Association → (buffer : List ℕ) → Seen
refuses why a buffer = announced (record { outcome = Err (refusal why); written = 0; association = a }) buffer

-- one entry of type 0 for data and 300 seconds with P, with another new inbound SPI
abbrev one : List OwnLocator
one = filled (own 0 2 300 true 4 ∷ [])

-- the list of one entry is refused so, where there is room
abbrev judged : OwnLocator → Seen
judged e = announces found (filled (e ∷ [])) 1 0x1002 (replicate 60 0xff)

abbrev ill : Seen
ill = refuses 18 found (replicate 60 0xff)

-- ---- Checks
-- a message that brings these parameters, with eight nonces and the shortest buffer that is long enough
abbrev brings : (parameters : List ℕ) → Seen
brings parameters = message found (packet_of parameters) true (10 ∷ 11 ∷ 12 ∷ 13 ∷ 14 ∷ 15 ∷ 16 ∷ 17 ∷ []) (replicate 384 0xff)

-- it is refused by this number
abbrev denies : (why : ℕ) → Seen
denies why = declined why found (replicate 384 0xff)

-- ECHO_REQUEST_SIGNED with so many opaque bytes
abbrev request : (n : ℕ) → List ℕ
request n = parameter_bytes echo_request_signed (replicate n 0xab)

-- ---- the table
abbrev table : List Case
unfolding calls
table =
    -- "OLD SPI is the inbound SPI, which becomes the new one; the Update ID is the next own one, which rises by one.": a type 0 entry, and the bytes after it
    (announces found one 1 0x1002 (replicate 60 0xff)
    gives tells 56 (with 1000 0x1002 6 4)
    (hex "0041000c 00000201 00001001 00001002 00c10018 02000401 0000012c 20010db8 00000000 00000000 00000004 00000000 01810004 00000003 ffffffff"))
    -- a type 1 entry has the new inbound SPI, and needs no padding
    ∷ (announces found (filled (own 1 1 60 false 4 ∷ [])) 1 0x1002 (replicate 56 0xff)
    gives tells 56 (with 1000 0x1002 6 4)
    (hex "0041000c 00000201 00001001 00001002 00c1001c 01010500 0000003c 00001002 20010db8 00000000 00000000 00000004 01810004 00000003"))
    -- one of each
    ∷ (announces found (own 0 0 60 false 4 ∷ own 1 0 60 true 5 ∷ replicate 6 (own 2 3 0 true 9)) 2 0x1001 (replicate 80 0xff)
    gives tells 80 (with 1000 0x1001 6 4)
    (hex "0041000c 00000201 00001001 00001001 00c10034 00000400 0000003c 20010db8 00000000 00000000 00000004"
    ++ hex "00010501 0000003c 00001001 20010db8 00000000 00000000 00000005 01810004 00000003"))
    -- the last own Update ID
    ∷ (announces (used 4294967295) one 1 0x1002 (replicate 56 0xff)
    gives tells 56 (with 1000 0x1002 6 (2 ^ 32))
    (hex "0041000c 00000201 00001001 00001002 00c10018 02000401 0000012c 20010db8 00000000 00000000 00000004 00000000 01810004 ffffffff"))
    -- 0, in the new call too
    ∷ (announces bad one 1 0x1002 (replicate 56 0xff) gives refuses 0 bad (replicate 56 0xff))
    -- 17: "list outside 1 to 8"
    ∷ (announces found one 0 0x1002 (replicate 256 0xff) gives refuses 17 found (replicate 256 0xff))
    ∷ (announces found eight 9 0x1002 (replicate 256 0xff) gives refuses 17 found (replicate 256 0xff))
    -- 18: "list row 6 would refuse", by its clauses; each of the lists has others after the first entry that would be refused
    ∷ (judged (own 0 3 60 false 4) gives ill)
    ∷ (judged (own 2 0 60 false 4) gives ill)
    ∷ (judged (own 0 0 0 false 4) gives ill)
    ∷ (judged (record { address = record { high = 0; low = 0 }; lifetime = 60; kind = 0; traffic = 0; preferred = false }) gives ill)
    ∷ (announces found (own 0 0 60 false 4 ∷ filled (own 1 0 60 false 4 ∷ [])) 2 0x1002 (replicate 88 0xff) gives refuses 18 found (replicate 88 0xff))
    ∷ (announces found (own 0 0 60 true 4 ∷ filled (own 0 0 60 true 5 ∷ [])) 2 0x1002 (replicate 88 0xff) gives refuses 18 found (replicate 88 0xff))
    -- 19: "SPI 0"
    ∷ (announces found one 1 0 (replicate 56 0xff) gives refuses 19 found (replicate 56 0xff))
    -- 20: "own IDs used up"
    ∷ (announces (used (2 ^ 32)) one 1 0x1002 (replicate 56 0xff) gives refuses 20 (used (2 ^ 32)) (replicate 56 0xff))
    -- 21: "buffer below what is to be written"
    ∷ (announces found one 1 0x1002 (replicate 55 0xff) gives refuses 21 found (replicate 55 0xff))
    ∷ (announces found eight 8 0x1002 (replicate 255 0xff) gives refuses 21 found (replicate 255 0xff))
    -- where two are earned, the first is given: 0 and 17, 17 and 18, 18 and 19, 19 and 20, 20 and 21
    ∷ (announces bad one 0 0x1002 [] gives refuses 0 bad [])
    ∷ (announces found (replicate 8 (own 2 0 60 false 4)) 9 0x1002 [] gives refuses 17 found [])
    ∷ (announces found (replicate 8 (own 2 0 60 false 4)) 1 0 [] gives refuses 18 found [])
    ∷ (announces (used (2 ^ 32)) one 1 0 [] gives refuses 19 (used (2 ^ 32)) [])
    ∷ (announces (used (2 ^ 32)) one 1 0x1002 [] gives refuses 20 (used (2 ^ 32)) [])
    -- a Check gets "an ACK of the peer's ID and an echo response with the same opaque bytes"
    ∷ (brings (id_of 7 ++ request 9)
    gives told (Ok Responded) 24 0 0 (with 1000 0x1001 7 3) (hex "01c10004 00000007 03c10009 abababab abababab ab000000" ++ replicate 360 0xff))
    -- with ESP_INFO, which "is not judged further": neither of its SPIs is known here
    ∷ (brings (esp 9 0x7777 0 ++ (id_of 7 ++ request 0))
    gives told (Ok Responded) 16 0 0 (with 1000 0x1001 7 3) (hex "01c10004 00000007 03c10000 00000000" ++ replicate 368 0xff))
    -- "up to 64 of them"
    ∷ (brings (id_of 7 ++ request 64)
    gives told (Ok Responded) 80 0 0 (with 1000 0x1001 7 3) (hex "01c10004 00000007 03c10040" ++ (replicate 64 0xab ++ (replicate 4 0 ++ replicate 304 0xff))))
    -- "a Repeated Check is answered with the bytes it would get if new and changes nothing"
    ∷ (brings (id_of 6 ++ request 9)
    gives told (Ok Repeated) 24 0 0 found (hex "01c10004 00000006 03c10009 abababab abababab ab000000" ++ replicate 360 0xff))
    -- 22: "Opaque over 64"; "A Check falls under row 7 as a Move does"
    ∷ (brings (id_of 7 ++ request 65) gives denies 22)
    ∷ (brings (id_of 5 ++ request 9) gives denies 7)
    -- 5: "a Move or Reply holds no 897", also one over 64 bytes
    ∷ (brings (esp 0 0x2001 0x2001 ++ (set_of (locator 0 0 60 1 ∷ []) ++ (id_of 7 ++ request 9))) gives denies 5)
    ∷ (brings (request 65 ++ echo 9) gives denies 5)
    -- 4 and 22, 22 and 7, 22 and Repeated
    ∷ (brings (parameter_bytes 67 [] ++ (id_of 7 ++ request 65)) gives denies 4)
    ∷ (brings (id_of 5 ++ request 65) gives denies 22)
    ∷ (brings (id_of 6 ++ request 65) gives denies 22)
    ∷ []

-- every case agrees with the definitions
agrees : map (λ (case : Case). case.asked) table ≡ map (λ (case : Case). case.given) table
unfolding table
agrees = refl
