-- Worked examples, computed from the definitions: headers, types that fall, and what a walk finds in packets in hex.
use Rattle.std.specs.Prelude.{ℕ, ◌≡◌, refl, true, false, List, [], ◌∷◌, ◌++◌, map, replicate, Ok, Err}
use Rattle.refusal.specs.Table.{refusal}
use Rattle.octets.specs.ExamplesHex.{hex}
use Rattle.octets.specs.Records.{records}
use Rattle.parameter.specs.Types.{refused_type, wrong_length}
use Rattle.parameter.specs.declared.Parameter.{Parameter}
use Rattle.frame.specs.declared.Occurrence.{Occurrence}
use Rattle.frame.specs.Header.{header_size, header_holds}
use Rattle.frame.specs.Parameters.{parameters, falls, ill_formed, ill_after}
use Rattle.frame.specs.Survey.{never, again, occurs, refusal4, walk_of}

-- ---- the header
-- the checksum, the controls and the HITs: 36 bytes that are not judged
abbrev unjudged : List ℕ
unjudged = replicate 36 0xa5

-- "next header 59; header length h with (h + 1) × 8 equal to the packet's length; byte 2 equal to 16 (UPDATE); byte 3 with high four bits 2 and low
-- bit 1": 40 bytes, 48 bytes, and other bits of byte 3
headers : (map (λ (first : List ℕ). header_holds (first ++ unjudged)) (hex "3b041021" ∷ hex "3b04102f" ∷ []) ≡ true ∷ true ∷ [])
    × (header_holds (hex "3b051021" ++ (unjudged ++ replicate 8 0)) ≡ true)
    × (header_size ≡ 40)
headers = (refl, refl, refl)

-- another next header; a length that is below or above the packet's; another packet type; another version; the low bit 0
broken_headers : map (λ (first : List ℕ). header_holds (first ++ unjudged))
    (hex "3a041021" ∷ hex "3c041021" ∷ hex "3b031021" ∷ hex "3b051021" ∷ hex "3b040f21" ∷ hex "3b041121" ∷ hex "3b041011" ∷ hex "3b041031" ∷ hex "3b041020" ∷ [])
    ≡ replicate 9 false
broken_headers = refl

-- "under 40 bytes": 32 of them, whose header length says so; and no byte at all
short_headers : (header_holds (hex "3b031021" ++ replicate 28 0) ≡ false) × (header_holds [] ≡ false)
short_headers = (refl, refl)

-- ---- types that fall
-- a parameter of this type, with L = 4, that ends here
abbrev typed : (kind end : ℕ) → Parameter
typed kind end = record { kind = kind; len = 4; body = 44; next = end }

-- "Types never fall along the packet.": of no parameter, of one after a lower, an equal and a higher type, and of the second and third
falling : (map (λ (last : ℕ). falls last []) (0 ∷ 1000 ∷ []) ≡ false ∷ false ∷ [])
    × (map (λ (last : ℕ). falls last (typed 385 48 ∷ [])) (384 ∷ 385 ∷ 386 ∷ []) ≡ false ∷ false ∷ true ∷ [])
    × (map (λ (kind : ℕ). falls 65 (typed 385 48 ∷ typed kind 56 ∷ typed 449 64 ∷ [])) (384 ∷ 385 ∷ 449 ∷ 450 ∷ [])
    ≡ true ∷ false ∷ false ∷ true ∷ [])
unfolding falls
falling = (refl, refl, refl)

-- refusal 3 by parameters that end within 56 bytes: past the end, falling, of a wrong length, and none of these
ill : (map (ill_formed (replicate 56 0) 65) ((typed 385 57 ∷ []) ∷ (typed 64 56 ∷ []) ∷ (typed 65 56 ∷ []) ∷ (typed 385 56 ∷ []) ∷ [])
    ≡ true ∷ true ∷ true ∷ false ∷ [])
    × (map (ill_after (replicate 56 0) 65) (typed 385 57 ∷ typed 64 56 ∷ typed 65 56 ∷ typed 385 56 ∷ []) ≡ true ∷ true ∷ true ∷ false ∷ [])
unfolding falls wrong_length
ill = (refl, refl)

-- ---- what is found
-- ESP_INFO, LOCATOR_SET, SEQ, ACK, HOST_ID, ECHO_RESPONSE_SIGNED, HIP_MAC, HIP_SIGNATURE
abbrev one_each : List ℕ
one_each =
    hex "3b131021" ++ (unjudged
    ++ (hex "0041000c 00000007 00001001 00001002"
    ++ (hex "00c10018 00000401 0000003c 20010db8 00000000 00000000 00000001 00000000"
    ++ (hex "01810004 00000009"
    ++ (hex "01c10004 00000003"
    ++ (hex "02c1000c 00080000 05010001 00010203"
    ++ (hex "03c10008 01020304 05060708 00000000"
    ++ (hex "f0410004 01020304"
    ++ hex "f1010005 05010203 04000000 00000000"))))))))

-- two ESP_INFO, two LOCATOR_SET of no bytes, two SEQ, ACKs of 4, 8 and 4 bytes, echo responses of 1, 2 and 3, and an unknown odd type
abbrev repeated : List ℕ
repeated =
    hex "3b141021" ++ (unjudged
    ++ (hex "0041000c 00000007 00001001 00001002" ++ (hex "0041000c 00000007 00001001 00001002"
    ++ (hex "00c10000 00000000" ++ (hex "00c10000 00000000"
    ++ (hex "01810004 00000009" ++ (hex "01810004 00000009"
    ++ (hex "01c10004 00000003" ++ (hex "01c10008 00000003 00000004 00000000" ++ (hex "01c10004 00000003"
    ++ (hex "03c10001 01000000" ++ (hex "03c10002 01020000" ++ (hex "03c10003 01020300"
    ++ hex "f0430000 00000000")))))))))))))

-- how often a type occurs, more than once as 2, and where the first one's bytes are and how many
abbrev seen : (times body len : ℕ) → Occurrence
seen times body len = record { times = times; body = body; len = len }

-- the types of the parameters, in order
listed : (map (λ (p : Parameter). p.kind) (parameters one_each) ≡ 65 ∷ 193 ∷ 385 ∷ 449 ∷ 705 ∷ 961 ∷ 61505 ∷ 61697 ∷ [])
    × (map (λ (p : Parameter). p.body) (parameters one_each) ≡ 44 ∷ 60 ∷ 92 ∷ 100 ∷ 108 ∷ 124 ∷ 140 ∷ 148 ∷ [])
unfolding records
listed = (refl, refl)

-- the first occurrence is kept with its place and length, and more than one count as 2
counts : (again never 44 12 ≡ seen 1 44 12) × (again (seen 1 44 12) 60 4 ≡ seen 2 44 12) × (again (seen 2 44 12) 60 4 ≡ seen 2 44 12)
counts = (refl, refl, refl)

-- a packet with these parameters, by its header length
abbrev with : (h : ℕ) → List ℕ → List ℕ
with h parameters = 0x3b ∷ h ∷ 0x10 ∷ 0x21 ∷ unjudged ++ parameters

-- what the walk answers: of each type once, of each more than once with an unknown type, of two requests, of no parameter, and of one of type 0, which
-- falls below none
walks : (walk_of one_each
    ≡ Ok (record { unknown = false; esp = seen 1 44 12; set = seen 1 60 24; seq = seen 1 92 4; ack = seen 1 100 4; request = seen 0 0 0; echo = seen 1 124 8 }))
    × (walk_of repeated
    ≡ Ok (record { unknown = true; esp = seen 2 44 12; set = seen 2 76 0; seq = seen 2 92 4; ack = seen 2 108 4; request = seen 0 0 0; echo = seen 2 140 1 }))
    × (walk_of (with 9 (hex "01810004 00000009 03810008 01020304 05060708 00000000 03810001 01000000 03c10000 00000000"))
    ≡ Ok (record { unknown = false; esp = seen 0 0 0; set = seen 0 0 0; seq = seen 1 44 4; ack = seen 0 0 0; request = seen 2 52 8; echo = seen 1 76 0 }))
    × (map walk_of (with 4 [] ∷ with 5 (hex "00000000 00000000") ∷ [])
    ≡ replicate 2 (Ok (record { unknown = false; esp = seen 0 0 0; set = seen 0 0 0; seq = seen 0 0 0; ack = seen 0 0 0; request = seen 0 0 0; echo = seen 0 0 0 })))
unfolding walk_of records refused_type wrong_length falls occurs
walks = (refl, refl, refl, refl)

-- "header rule broken, parameter past the end, falling type, wrong L for 65, 385, 449": ESP_INFO of 8 and 16 bytes, SEQ of 0 and 8, ACK of 0 and 6
refused_walks : map walk_of
    (with 5 []
    ∷ with 5 (hex "00420005 00000000")
    ∷ with 6 (hex "01c10004 00000003 01810004 00000009")
    ∷ with 6 (hex "00410008 00000007 00001001 00000000")
    ∷ with 7 (hex "00410010 00000007 00001001 00001002 00001003 00000000")
    ∷ with 5 (hex "01810000 00000000")
    ∷ with 6 (hex "01810008 00000009 00000009 00000000")
    ∷ with 5 (hex "01c10000 00000000")
    ∷ with 6 (hex "01c10006 00000003 00000000 00000000")
    ∷ [])
    ≡ replicate 9 (Err (refusal 3))
unfolding walk_of records refused_type wrong_length falls occurs
refused_walks = refl

-- refusal 4 looks at every parameter: the first, the last, and none; 897 is known
unknown_types : map refusal4
    (with 6 (hex "00430000 00000000 01810004 00000009")
    ∷ with 6 (hex "01810004 00000009 f0430000 00000000")
    ∷ with 6 (hex "03810008 01020304 05060708 00000000")
    ∷ with 6 (hex "00420000 00000000 01810004 00000009")
    ∷ with 4 []
    ∷ [])
    ≡ true ∷ true ∷ false ∷ false ∷ false ∷ []
unfolding records refused_type
unknown_types = refl
