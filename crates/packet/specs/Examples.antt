-- Worked examples, computed from the definitions: a packet for each condition of refusals 3 to 6, accepted Moves, Replies and Checks.
use Rattle.std.specs.Prelude.{ℕ, zero, suc, ◌+◌, ◌/◌, ◌≡◌, refl, true, false, List, [], ◌∷◌, ◌++◌, Result, Ok, Err, map, length, replicate}
use Rattle.refusal.specs.declared.Refusal.{Refusal}
use Rattle.refusal.specs.Table.{refusal}
use Rattle.octets.specs.Records.{records}
use Rattle.octets.specs.Written.{bytes_of}
use Rattle.address.specs.Rules.{legal}
use Rattle.parameter.specs.Types.{esp_info, locator_set, seq, ack, echo_request_signed, echo_response_signed, refused_type, wrong_length}
use Rattle.parameter.specs.Written.{parameter_bytes}
use Rattle.frame.specs.Parameters.{falls}
use Rattle.frame.specs.Survey.{occurs}
use Rattle.locator.specs.Locators.{ill_form}
use Rattle.locator_set.specs.Sets.{twice, marks, padded}
use Rattle.packet.specs.declared.EchoResponse.{EchoResponse}
use Rattle.packet.specs.declared.EchoResponse.TheVariants.{Absent, Nonce, OtherLength}
use Rattle.packet.specs.declared.MoveFields.{MoveFields}
use Rattle.packet.specs.declared.CheckFields.{CheckFields}
use Rattle.packet.specs.declared.Message.{Message}
use Rattle.packet.specs.declared.Message.TheVariants.{Move, Reply, PeerCheck}
use Rattle.packet.specs.Kinds.{is_move, is_reply, is_check}
use Rattle.packet.specs.Readings.{opaque_of, kind_of, reading_of}

-- ---- packets
-- a header and what follows it
abbrev packet_of : List ℕ → List ℕ
packet_of rest = 59 ∷ (4 + length rest / 8) ∷ 16 ∷ 0x21 ∷ replicate 36 0 ++ rest

-- KEYMAT Index 7, OLD SPI 0x1001, NEW SPI 0x1002
abbrev esp : List ℕ
esp = parameter_bytes esp_info (0 ∷ 0 ∷ 0 ∷ 7 ∷ 0 ∷ 0 ∷ 0x10 ∷ 1 ∷ 0 ∷ 0 ∷ 0x10 ∷ 2 ∷ [])

-- Update ID 9
abbrev id : List ℕ
id = parameter_bytes seq (0 ∷ 0 ∷ 0 ∷ 9 ∷ [])

-- an echo response with a nonce of 8 bytes
abbrev echo : List ℕ
echo = parameter_bytes echo_response_signed (1 ∷ 2 ∷ 3 ∷ 4 ∷ 5 ∷ 6 ∷ 7 ∷ 8 ∷ [])

-- a request to echo nine opaque bytes
abbrev request : List ℕ
request = parameter_bytes echo_request_signed (replicate 9 7)

-- a locator of 0x20 .. 0x20 and a last byte, by its head: traffic type, locator type, length, P, lifetime
abbrev locator : (traffic kind units p lifetime last : ℕ) → List ℕ
locator traffic kind units p lifetime last = traffic ∷ kind ∷ units ∷ p ∷ 0 ∷ 0 ∷ 0 ∷ lifetime ∷ replicate 15 0x20 ++ (last ∷ [])

-- the same of type 0, for both kinds of traffic and 60 seconds, without P
abbrev plain : (last : ℕ) → List ℕ
plain last = locator 0 0 4 0 60 last

-- a locator of the IPv4 address a.0.0.1
abbrev ipv4 : (a : ℕ) → List ℕ
ipv4 a = 0 ∷ 0 ∷ 4 ∷ 0 ∷ 0 ∷ 0 ∷ 0 ∷ 60 ∷ replicate 10 0 ++ (0xff ∷ 0xff ∷ a ∷ 0 ∷ 0 ∷ 1 ∷ [])

-- a type 1 locator for signalling and 300 seconds, with P and a reserved bit set
abbrev bound : List ℕ
bound = 1 ∷ 1 ∷ 5 ∷ 0x81 ∷ 0 ∷ 0 ∷ 1 ∷ 44 ∷ 0 ∷ 0 ∷ 0x10 ∷ 2 ∷ replicate 16 0x30

-- n locators with other addresses
unfoldable several : ℕ → List ℕ
several zero = []
several (suc n) = plain n ++ several n

-- LOCATOR_SET of one locator
abbrev set : List ℕ
set = parameter_bytes locator_set (plain 1)

-- ACK of one Update ID
abbrev acked : List ℕ
acked = parameter_bytes ack (replicate 4 0)

-- a Move with the bytes of a set
abbrev move_of : List ℕ → List ℕ
move_of set = packet_of (esp ++ (parameter_bytes locator_set set ++ id))

-- what is said of a packet: its refusal, a Reply or a Check, or the fields of a Move and how many locators it lists
data Said : Type 0 where
  refuses : Refusal → Said
  moves : MoveFields → (count : ℕ) → Said
  replies : EchoResponse → Said
  checks : CheckFields → Said

abbrev said : Result Message Refusal → Said
said (Err why) = refuses why
said (Ok (Move m set)) = moves m set.count
said (Ok (Reply echo)) = replies echo
said (Ok (PeerCheck c)) = checks c

-- a Move that lists so many locators
abbrev says : ℕ → Said
says count = moves (record { keymat = 7; old = 0x1001; new = 0x1002; id = 9; echo = Absent }) count

-- ---- the table: a packet, and what it says
record Case : Type 0 where
  packet : List ℕ
  says : Said

infixr 4 ◌gives◌
abbrev ◌gives◌ : List ℕ → Said → Case
packet gives message = record { packet = packet; says = message }

abbrev table : List Case
table =
    -- refusal 3: under 40 bytes, the header's rule, past the end, a falling type, a wrong L
    (replicate 39 0 gives refuses (refusal 3))
    ∷ ((58 ∷ 4 ∷ 16 ∷ 0x21 ∷ replicate 36 0) gives refuses (refusal 3))
    ∷ ((59 ∷ 5 ∷ 16 ∷ 0x21 ∷ replicate 36 0) gives refuses (refusal 3))
    ∷ ((59 ∷ 4 ∷ 17 ∷ 0x21 ∷ replicate 36 0) gives refuses (refusal 3))
    ∷ ((59 ∷ 4 ∷ 16 ∷ 0x11 ∷ replicate 36 0) gives refuses (refusal 3))
    ∷ ((59 ∷ 4 ∷ 16 ∷ 0x20 ∷ replicate 36 0) gives refuses (refusal 3))
    ∷ (packet_of (0 ∷ 66 ∷ 0 ∷ 5 ∷ 0 ∷ 0 ∷ 0 ∷ 0 ∷ []) gives refuses (refusal 3))
    ∷ (packet_of (id ++ esp) gives refuses (refusal 3))
    ∷ (packet_of (parameter_bytes esp_info (replicate 8 0)) gives refuses (refusal 3))
    ∷ (packet_of (parameter_bytes esp_info (replicate 16 0)) gives refuses (refusal 3))
    ∷ (packet_of (parameter_bytes seq []) gives refuses (refusal 3))
    ∷ (packet_of (parameter_bytes seq (replicate 8 0)) gives refuses (refusal 3))
    ∷ (packet_of (parameter_bytes ack []) gives refuses (refusal 3))
    ∷ (packet_of (parameter_bytes ack (replicate 6 0)) gives refuses (refusal 3))
    -- all parameters are judged by refusal 3 before any is by refusal 4
    ∷ (packet_of (parameter_bytes 67 [] ++ parameter_bytes ack []) gives refuses (refusal 3))
    -- refusal 4: an odd type not known
    ∷ (packet_of (parameter_bytes 67 []) gives refuses (refusal 4))
    ∷ (packet_of (id ++ (request ++ parameter_bytes 899 [])) gives refuses (refusal 4))
    -- refusal 5: no parameter, an even type alone
    ∷ (packet_of [] gives refuses (refusal 5))
    ∷ (packet_of (parameter_bytes 66 []) gives refuses (refusal 5))
    -- "A Reply has exactly one echo response, none of those three, at most one ACK.": a second echo response; ESP_INFO, a set or SEQ; a second ACK;
    -- no echo response
    ∷ (packet_of (echo ++ echo) gives refuses (refusal 5))
    ∷ (packet_of (esp ++ echo) gives refuses (refusal 5))
    ∷ (packet_of (set ++ echo) gives refuses (refusal 5))
    ∷ (packet_of (id ++ echo) gives refuses (refusal 5))
    ∷ (packet_of (acked ++ (acked ++ echo)) gives refuses (refusal 5))
    ∷ (packet_of acked gives refuses (refusal 5))
    -- "A Move has exactly one each of ESP_INFO, LOCATOR_SET and SEQ, at most one echo response and one ACK.": each of the three missing, each twice
    ∷ (packet_of (set ++ id) gives refuses (refusal 5))
    ∷ (packet_of (esp ++ id) gives refuses (refusal 5))
    ∷ (packet_of (esp ++ set) gives refuses (refusal 5))
    ∷ (packet_of (esp ++ (esp ++ (set ++ id))) gives refuses (refusal 5))
    ∷ (packet_of (esp ++ (set ++ (parameter_bytes locator_set (plain 2) ++ id))) gives refuses (refusal 5))
    ∷ (packet_of (esp ++ (set ++ (id ++ id))) gives refuses (refusal 5))
    ∷ (packet_of (esp ++ (set ++ (id ++ (acked ++ acked)))) gives refuses (refusal 5))
    ∷ (packet_of (esp ++ (set ++ (id ++ (echo ++ echo)))) gives refuses (refusal 5))
    -- "a Move or Reply holds no 897"
    ∷ (packet_of (esp ++ (set ++ (id ++ request))) gives refuses (refusal 5))
    ∷ (packet_of (request ++ echo) gives refuses (refusal 5))
    -- "a Check (SEQ and one 897, at most one each of ESP_INFO and ACK, nothing else known but 705, MAC and signature)": no SEQ or two, two 897, two ESP_INFO,
    -- two ACK, LOCATOR_SET, an echo response
    ∷ (packet_of request gives refuses (refusal 5))
    ∷ (packet_of (id ++ (id ++ request)) gives refuses (refusal 5))
    ∷ (packet_of id gives refuses (refusal 5))
    ∷ (packet_of (id ++ (request ++ request)) gives refuses (refusal 5))
    ∷ (packet_of (esp ++ (esp ++ (id ++ request))) gives refuses (refusal 5))
    ∷ (packet_of (id ++ (acked ++ (acked ++ request))) gives refuses (refusal 5))
    ∷ (packet_of (set ++ (id ++ request)) gives refuses (refusal 5))
    ∷ (packet_of (id ++ (request ++ echo)) gives refuses (refusal 5))
    -- refusal 6, by each of its conditions
    ∷ (move_of [] gives refuses (refusal 6))
    ∷ (move_of (several 9) gives refuses (refusal 6))
    ∷ (move_of (plain 1 ++ (0 ∷ [])) gives refuses (refusal 6))
    ∷ (move_of (locator 3 0 4 0 60 1) gives refuses (refusal 6))
    ∷ (move_of (locator 0 2 6 0 60 1 ++ replicate 8 0) gives refuses (refusal 6))
    ∷ (move_of (locator 0 0 5 0 60 1 ++ replicate 4 0) gives refuses (refusal 6))
    ∷ (move_of (locator 0 0 4 0 0 1) gives refuses (refusal 6))
    ∷ (move_of (ipv4 224) gives refuses (refusal 6))
    ∷ (move_of (ipv4 239) gives refuses (refusal 6))
    ∷ (move_of (plain 1 ++ plain 1) gives refuses (refusal 6))
    ∷ (move_of (locator 0 0 4 1 60 1 ++ locator 0 0 4 1 60 2) gives refuses (refusal 6))
    -- accepted
    ∷ (move_of (several 8) gives says 8)
    ∷ (move_of (ipv4 223 ++ ipv4 240) gives says 2)
    ∷ (packet_of (esp ++ (parameter_bytes 66 [] ++ (parameter_bytes locator_set (plain 1) ++ (id ++ parameter_bytes ack (replicate 8 0))))) gives says 1)
    ∷ (packet_of (acked ++ echo) gives replies (Nonce 0x0102030405060708))
    ∷ (packet_of echo gives replies (Nonce 0x0102030405060708))
    ∷ (packet_of (parameter_bytes echo_response_signed (replicate 7 1)) gives replies OtherLength)
    ∷ (packet_of (parameter_bytes echo_response_signed (replicate 9 1)) gives replies OtherLength)
    ∷ (packet_of (parameter_bytes echo_response_signed []) gives replies OtherLength)
    ∷ (packet_of (id ++ request) gives checks (record { id = 9; body = 52; len = 9 }))
    ∷ (packet_of (esp ++ (id ++ request)) gives checks (record { id = 9; body = 68; len = 9 }))
    ∷ (packet_of (id ++ (acked ++ request)) gives checks (record { id = 9; body = 60; len = 9 }))
    ∷ (packet_of (esp ++ (id ++ (acked ++ parameter_bytes echo_request_signed []))) gives checks (record { id = 9; body = 76; len = 0 }))
    ∷ (packet_of (id ++ parameter_bytes echo_request_signed (replicate 65 0)) gives checks (record { id = 9; body = 52; len = 65 }))
    ∷ []

-- every case agrees with the definitions
agrees : map (λ (case : Case). said (reading_of case.packet)) table ≡ map (λ (case : Case). case.says) table
unfolding several records legal refused_type wrong_length parameter_bytes bytes_of falls occurs ill_form twice marks is_move is_reply is_check kind_of reading_of
agrees = refl

-- a whole reading: a Move with an echo response and a second locator of type 1, and what it lists
whole : reading_of (packet_of (esp ++ (parameter_bytes locator_set (plain 1 ++ bound) ++ (id ++ echo))))
    ≡ Ok
    (Move (record { keymat = 7; old = 0x1001; new = 0x1002; id = 9; echo = Nonce 0x0102030405060708 })
    (record {
      listed =
          padded
          (record {
            address = record { high = 0x2020202020202020; low = 0x2020202020202001 };
            lifetime = 60;
            spi = 0;
            traffic = 0;
            kind = 0;
            preferred = false;
          }
          ∷ record {
            address = record { high = 0x3030303030303030; low = 0x3030303030303030 };
            lifetime = 300;
            spi = 0x1002;
            traffic = 1;
            kind = 1;
            preferred = true;
          }
          ∷ []);
      count = 2;
    }))
unfolding records legal refused_type wrong_length parameter_bytes bytes_of falls occurs ill_form twice marks is_move is_reply kind_of reading_of
whole = refl

-- the opaque bytes: those at the place, as far as the packet goes
opaque : map (opaque_of (1 ∷ 2 ∷ 3 ∷ 4 ∷ 5 ∷ []))
    (record { id = 9; body = 1; len = 3 } ∷ record { id = 9; body = 5; len = 0 } ∷ record { id = 9; body = 3; len = 4 } ∷ record { id = 9; body = 6; len = 1 } ∷ [])
    ≡ (2 ∷ 3 ∷ 4 ∷ []) ∷ [] ∷ (4 ∷ 5 ∷ []) ∷ [] ∷ []
unfolding opaque_of
opaque = refl
