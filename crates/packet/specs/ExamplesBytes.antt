-- Packets in hex, copied by hand from the layouts of RFC 7401, 7402 and 8046 and not made by the definitions: a number that is wrong in these fails here.
use Rattle.std.specs.Prelude.{ℕ, ◌≡◌, refl, true, false, List, ◌∷◌, ◌++◌, Ok, Err, replicate}
use Prim.Native.String.{String}
use Rattle.refusal.specs.Table.{refusal}
use Rattle.octets.specs.ExamplesHex.{hex}
use Rattle.octets.specs.Records.{records}
use Rattle.address.specs.Rules.{legal}
use Rattle.parameter.specs.Types.{refused_type, wrong_length}
use Rattle.frame.specs.Parameters.{falls}
use Rattle.frame.specs.Survey.{occurs}
use Rattle.locator.specs.Locators.{ill_form}
use Rattle.locator_set.specs.Sets.{twice, marks}
use Rattle.locator_set.specs.Examples.{nothing}
use Rattle.packet.specs.declared.EchoResponse.TheVariants.{Nonce}
use Rattle.packet.specs.declared.Message.TheVariants.{Move, Reply, PeerCheck}
use Rattle.packet.specs.Kinds.{is_move, is_reply, is_check}
use Rattle.packet.specs.Readings.{kind_of, reading_of}

-- the header: next header 59, header length, packet type 16 (UPDATE), version 2 and the fixed bit 1; checksum and controls; the sender's HIT; the
-- receiver's HIT
abbrev header : String → List ℕ
header first = hex first ++ (hex "c0de0000" ++ (hex "20010020 00112233 44556677 8899aabb" ++ hex "20010020 ffeeddcc bbaa9988 77665544"))

-- ESP_INFO 65: reserved, KEYMAT Index 0x0203, OLD SPI, NEW SPI
abbrev esp_info : List ℕ
esp_info = hex "0041000c 00000203 00001001 00001002"

-- LOCATOR_SET 193: 2001:db8::1 of type 0 for both kinds of traffic, P and 60 seconds; 198.51.100.7 of type 1 for data and 2^24 + 2 seconds
abbrev locator_set : List ℕ
locator_set =
    hex "00c10034 00000401 0000003c 20010db8 00000000 00000000 00000001"
    ++ hex "02010500 01000002 00001002 00000000 00000000 0000ffff c6336407"

-- SEQ 385, ACK 449 of two Update IDs, HOST_ID 705, ECHO_REQUEST_SIGNED 897, ECHO_RESPONSE_SIGNED 961, HIP_MAC 61505 and HIP_SIGNATURE 61697. Not
-- judged: what stands in HOST_ID, HIP_MAC and HIP_SIGNATURE, which are shorter here than any real one, and what pads
abbrev seq : List ℕ
seq = hex "01810004 00010009"

abbrev ack : List ℕ
ack = hex "01c10008 00000003 00000004 ffffffff"

abbrev host_id : List ℕ
host_id = hex "02c1000c 00080000 05010001 00010203"

abbrev echo_request : List ℕ
echo_request = hex "03810008 01020304 05060708 00000000"

abbrev echo_response : List ℕ
echo_response = hex "03c10008 01020304 05060708 ffffffff"

abbrev mac : List ℕ
mac = hex "f0410004 01020304"

abbrev signature : List ℕ
signature = hex "f1010005 05010203 04ffffff ffffffff"

-- a whole Move, with each parameter that it may have
whole_move : reading_of (header "3b171021" ++ (esp_info ++ (locator_set ++ (seq ++ (ack ++ (host_id ++ (echo_response ++ (mac ++ signature))))))))
    ≡ Ok
    (Move (record { keymat = 0x0203; old = 0x1001; new = 0x1002; id = 0x00010009; echo = Nonce 0x0102030405060708 })
    (record {
      listed =
          record {
            address = record { high = 0x20010db800000000; low = 1 };
            lifetime = 60;
            spi = 0;
            traffic = 0;
            kind = 0;
            preferred = true;
          }
          ∷ record {
            address = record { high = 0; low = 0x0000ffffc6336407 };
            lifetime = 0x01000002;
            spi = 0x1002;
            traffic = 2;
            kind = 1;
            preferred = false;
          }
          ∷ replicate 6 nothing;
      count = 2;
    }))
unfolding records legal refused_type wrong_length falls occurs ill_form twice marks is_move is_reply kind_of reading_of
whole_move = refl

-- a whole Reply, with each parameter that it may have
whole_reply : reading_of (header "3b0d1021" ++ (ack ++ (host_id ++ (echo_response ++ (mac ++ signature)))))
    ≡ Ok (Reply (Nonce 0x0102030405060708))
unfolding records refused_type wrong_length falls occurs is_move is_reply kind_of reading_of
whole_reply = refl

-- a whole Check, with each parameter that it may have, HOST_ID, MAC and signature among them
whole_check : reading_of (header "3b101021" ++ (esp_info ++ (seq ++ (ack ++ (host_id ++ (echo_request ++ (mac ++ signature)))))))
    ≡ Ok (PeerCheck (record { id = 0x00010009; body = 100; len = 8 }))
unfolding records refused_type wrong_length falls occurs is_move is_reply is_check kind_of reading_of
whole_check = refl

-- "a Move or Reply holds no 897": the same Reply with it earns refusal 5
request_received : reading_of (header "3b0f1021" ++ (ack ++ (host_id ++ (echo_request ++ (echo_response ++ (mac ++ signature))))))
    ≡ Err (refusal 5)
unfolding records refused_type wrong_length falls occurs is_move is_reply is_check kind_of reading_of
request_received = refl
