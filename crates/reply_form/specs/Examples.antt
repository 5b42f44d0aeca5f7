-- Worked examples, computed from the definitions: the whole reply with one check, a check that is sent again, the order of two checks, a reply without checks, and answers to Checks.
use Rattle.std.specs.Prelude.{ℕ, ◌≡◌, refl, [], ◌∷◌, ◌++◌, map, length, replicate}
use Rattle.octets.specs.ExamplesHex.{hex}
use Rattle.octets.specs.Written.{bytes_of}
use Rattle.parameter.specs.Written.{parameter_bytes}
use Rattle.reply_form.specs.Replies.{nonce_count, check_size, ack_size, resend_size, esp_info_with, ack_bytes, resend_bytes, checks_bytes, move_bytes, move_size, response_bytes, fitted, overwritten}

-- "Peer ID 7, own ID 3, inbound SPI 0x1001, nonce 0102030405060708, one check, whole reply in hex"
one_check_lem : move_bytes 0x1001 7 3 (0x0102030405060708 ∷ []) 1
    ≡ hex "0041000c 00000000 00001001 00001001 01810004 00000003 01c10004 00000007 03810008 01020304 05060708 00000000"
unfolding move_bytes checks_bytes parameter_bytes bytes_of
one_check_lem = refl

-- order 4: that check sent again, after an announcement of the inbound SPI 0x1002: "the 48-byte form without its ACK", 40 bytes
resend : (resend_bytes 0x1002 3 0x0102030405060708 ≡ hex "0041000c 00000000 00001002 00001002 01810004 00000003 03810008 01020304 05060708 00000000")
    × (length (resend_bytes 0x1002 3 0x0102030405060708) ≡ 40)
    × (resend_size ≡ 40)
unfolding parameter_bytes bytes_of
resend = (refl, refl, refl)

-- two checks: the second has the next nonce and the next own ID. A nonce that is not offered counts 0
two_checks : (move_bytes 0x1001 7 3 (5 ∷ 6 ∷ []) 2
    ≡ hex "0041000c 00000000 00001001 00001001 01810004 00000003 01c10004 00000007 03810008 00000000 00000005 00000000"
    ++ hex "0041000c 00000000 00001001 00001001 01810004 00000004 01c10004 00000007 03810008 00000000 00000006 00000000")
    × (move_bytes 0x1001 7 3 [] 1 ≡ move_bytes 0x1001 7 3 (0 ∷ []) 1)
unfolding move_bytes checks_bytes parameter_bytes bytes_of
two_checks = (refl, refl)

-- the checks from the second on
from_the_second : checks_bytes 0x1001 7 3 (5 ∷ 6 ∷ 7 ∷ []) 1 2
    ≡ hex "0041000c 00000000 00001001 00001001 01810004 00000004 01c10004 00000007 03810008 00000000 00000006 00000000"
    ++ hex "0041000c 00000000 00001001 00001001 01810004 00000005 01c10004 00000007 03810008 00000000 00000007 00000000"
unfolding checks_bytes parameter_bytes bytes_of
from_the_second = refl

-- "A Move without new checks writes an 8-byte ACK alone.": "01c10004 00000007", and the ninth byte of the buffer is as it was
ack_alone : (move_bytes 0x1001 7 3 (5 ∷ []) 0 ≡ hex "01c10004 00000007")
    × (overwritten (move_bytes 0x1001 7 3 [] 0) (replicate 9 0xff) ≡ hex "01c10004 00000007 ff")
unfolding move_bytes parameter_bytes bytes_of
ack_alone = (refl, refl)

-- "eight nonces", "Each writes 48 bytes", "an 8-byte ACK": the sizes of replies with 0, 1, 2 and 8 checks
sizes : (nonce_count ∷ check_size ∷ ack_size ∷ [] ≡ 8 ∷ 48 ∷ 8 ∷ [])
    × (map move_size (0 ∷ 1 ∷ 2 ∷ 8 ∷ []) ≡ 8 ∷ 48 ∷ 96 ∷ 384 ∷ [])
    × (map (λ (n : ℕ). length (move_bytes 0x1001 7 3 [] n)) (0 ∷ 1 ∷ 2 ∷ 8 ∷ []) ≡ 8 ∷ 48 ∷ 96 ∷ 384 ∷ [])
unfolding move_bytes checks_bytes parameter_bytes bytes_of
sizes = (refl, refl, refl)

-- eight bytes and nine hold an ACK, and seven take nothing of it
fits : map (λ (room : ℕ). fitted room (ack_bytes 7)) (7 ∷ 8 ∷ 9 ∷ []) ≡ [] ∷ hex "01c10004 00000007" ∷ hex "01c10004 00000007" ∷ []
unfolding parameter_bytes bytes_of
fits = refl

-- ESP_INFO of a KEYMAT Index, OLD SPI and NEW SPI
esp_info_lem : esp_info_with 0x0203 0x1001 0x1002 ≡ hex "0041000c 00000203 00001001 00001002"
unfolding parameter_bytes bytes_of
esp_info_lem = refl

-- the answer to a Check of Update ID 7: the ACK, and the echo response with 0, 1, 4, 5 and 8 opaque bytes, padded with zeros
responses : map (response_bytes 7) ([] ∷ hex "aa" ∷ hex "aabbccdd" ∷ hex "aabbccddee" ∷ hex "01020304 05060708" ∷ [])
    ≡ hex "01c10004 00000007 03c10000 00000000"
    ∷ hex "01c10004 00000007 03c10001 aa000000"
    ∷ hex "01c10004 00000007 03c10004 aabbccdd"
    ∷ hex "01c10004 00000007 03c10005 aabbccdd ee000000 00000000"
    ∷ hex "01c10004 00000007 03c10008 01020304 05060708 00000000"
    ∷ []
unfolding response_bytes parameter_bytes bytes_of
responses = refl

-- 16 to 80 bytes, of 0 to 64 opaque ones
response_sizes : map (λ (n : ℕ). length (response_bytes 7 (replicate n 0xff))) (0 ∷ 1 ∷ 64 ∷ []) ≡ 16 ∷ 16 ∷ 80 ∷ []
unfolding response_bytes parameter_bytes bytes_of
response_sizes = refl
