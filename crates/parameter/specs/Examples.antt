-- Worked examples, computed from the definitions: the numbers of the types, lengths, and parameters in hex as RFC 7401, 7402 and 8046 lay them out.
use Rattle.std.specs.Prelude.{ℕ, ◌≡◌, refl, true, false, List, [], ◌∷◌, map, replicate, Option, None, Some, Result, Ok, Err}
use Prim.Native.String.{String}
use Rattle.refusal.specs.declared.Refusal.{Refusal}
use Rattle.refusal.specs.Table.{refusal}
use Rattle.octets.specs.ExamplesHex.{hex}
use Rattle.octets.specs.Written.{bytes_of}
use Rattle.parameter.specs.declared.Parameter.{Parameter}
use Rattle.parameter.specs.Types.{esp_info, locator_set, seq, ack, host_id, echo_request_signed, echo_response_signed, hip_mac, hip_signature, refused_type, nonce_size, wrong_length}
use Rattle.parameter.specs.Parameters.{takes, parameter_at, broken, step_at}
use Rattle.parameter.specs.Written.{parameter_bytes}

-- ---- the types
-- "ESP_INFO 65", "LOCATOR_SET 193", "SEQ 385", "ACK 449", "HOST_ID 705", "ECHO_REQUEST_SIGNED 897", "ECHO_RESPONSE_SIGNED 961", "HIP_MAC 61505",
-- "HIP_SIGNATURE 61697", and "nonces of 8 bytes"
numbers : (esp_info ∷ locator_set ∷ seq ∷ ack ∷ host_id ∷ echo_request_signed ∷ echo_response_signed ∷ hip_mac ∷ hip_signature ∷ []
    ≡ 65 ∷ 193 ∷ 385 ∷ 449 ∷ 705 ∷ 897 ∷ 961 ∷ 61505 ∷ 61697 ∷ [])
    × (nonce_size ≡ 8)
numbers = (refl, refl)

-- "Another even type is stepped over; another odd type .. is refused.": those that are known, 897 among them since order 1, their even neighbours and
-- others, their odd neighbours and others
refused_types : (map refused_type (65 ∷ 193 ∷ 385 ∷ 449 ∷ 705 ∷ 897 ∷ 961 ∷ 61505 ∷ 61697 ∷ []) ≡ replicate 9 false)
    × (map refused_type (0 ∷ 64 ∷ 66 ∷ 192 ∷ 194 ∷ 386 ∷ 450 ∷ 706 ∷ 896 ∷ 898 ∷ 962 ∷ 61506 ∷ 61698 ∷ 65534 ∷ []) ≡ replicate 14 false)
    × (map refused_type (1 ∷ 63 ∷ 67 ∷ 191 ∷ 195 ∷ 387 ∷ 451 ∷ 707 ∷ 895 ∷ 899 ∷ 963 ∷ 61507 ∷ 61699 ∷ 65535 ∷ []) ≡ replicate 14 true)
unfolding refused_type
refused_types = (refl, refl, refl)

-- "ESP_INFO 65 has L = 12", "SEQ 385 has L = 4", "ACK 449 has L a positive multiple of 4"; any L is right for another type
wrong_lengths : (map (wrong_length 65) (12 ∷ 0 ∷ 4 ∷ 8 ∷ 11 ∷ 13 ∷ 16 ∷ []) ≡ false ∷ replicate 6 true)
    × (map (wrong_length 385) (4 ∷ 0 ∷ 3 ∷ 5 ∷ 8 ∷ 12 ∷ []) ≡ false ∷ replicate 5 true)
    × (map (wrong_length 449) (4 ∷ 8 ∷ 12 ∷ 64 ∷ []) ≡ replicate 4 false)
    × (map (wrong_length 449) (0 ∷ 1 ∷ 2 ∷ 3 ∷ 5 ∷ 6 ∷ 7 ∷ 9 ∷ 10 ∷ []) ≡ replicate 9 true)
    × (map (λ (kind : ℕ). wrong_length kind 0) (64 ∷ 66 ∷ 193 ∷ 384 ∷ 386 ∷ 448 ∷ 450 ∷ 897 ∷ 961 ∷ []) ≡ replicate 9 false)
    × (map (λ (kind : ℕ). wrong_length kind 7) (64 ∷ 66 ∷ 193 ∷ 384 ∷ 386 ∷ 448 ∷ 450 ∷ 897 ∷ 961 ∷ []) ≡ replicate 9 false)
unfolding wrong_length
wrong_lengths = (refl, refl, refl, refl, refl, refl)

-- ---- sizes
-- "L of 24, 28, 56, 224 take 32, 32, 64, 232 bytes."; lesser ones take the next multiple of 8 that holds them after type and length
sizes : (map takes (24 ∷ 28 ∷ 56 ∷ 224 ∷ []) ≡ 32 ∷ 32 ∷ 64 ∷ 232 ∷ [])
    × (map takes (0 ∷ 1 ∷ 3 ∷ 4 ∷ 5 ∷ 8 ∷ 11 ∷ 12 ∷ 13 ∷ []) ≡ 8 ∷ 8 ∷ 8 ∷ 8 ∷ 16 ∷ 16 ∷ 16 ∷ 16 ∷ 24 ∷ [])
sizes = (refl, refl)

-- ---- parameters in hex
-- the step at the beginning of these bytes
abbrev at_once : String → Result (Option Parameter) Refusal
at_once digits = step_at (hex digits) 0

-- a parameter that is found at the beginning
abbrev found : (kind len next : ℕ) → Result (Option Parameter) Refusal
found kind len next = Ok (Some (record { kind = kind; len = len; body = 4; next = next }))

-- one of each type: ESP_INFO, LOCATOR_SET with one locator, SEQ, ACK, HOST_ID, ECHO_REQUEST_SIGNED, ECHO_RESPONSE_SIGNED, HIP_MAC and HIP_SIGNATURE
layouts : map at_once
    ("0041000c 00000007 00001001 00001002"
    ∷ "00c10018 00000401 0000003c 20010db8 00000000 00000000 00000001 00000000"
    ∷ "01810004 00000003"
    ∷ "01c10004 00000007"
    ∷ "02c1000c 00080000 05010001 00010203"
    ∷ "03810008 01020304 05060708 00000000"
    ∷ "03c10008 01020304 05060708 00000000"
    ∷ "f0410004 01020304"
    ∷ "f1010005 05010203 04000000 00000000"
    ∷ [])
    ≡ found 65 12 16 ∷ found 193 24 32 ∷ found 385 4 8 ∷ found 449 4 8 ∷ found 705 12 16 ∷ found 897 8 16 ∷ found 961 8 16 ∷ found 61505 4 8 ∷ found 61697 5 16 ∷ []
unfolding wrong_length
layouts = refl

-- those that are written: type, length L, L bytes, and padding that is zero
written : (parameter_bytes esp_info (hex "00000000 00001001 00001001") ≡ hex "0041000c 00000000 00001001 00001001")
    × (parameter_bytes seq (hex "00000003") ≡ hex "01810004 00000003")
    × (parameter_bytes ack (hex "00000007") ≡ hex "01c10004 00000007")
    × (parameter_bytes echo_request_signed (hex "01020304 05060708") ≡ hex "03810008 01020304 05060708 00000000")
    × (parameter_bytes 0x0102 (hex "aa") ≡ hex "01020001 aa000000")
    × (parameter_bytes 0x0102 [] ≡ hex "01020000 00000000")
unfolding parameter_bytes bytes_of
written = (refl, refl, refl, refl, refl, refl)

-- ---- steps
-- an ACK of L = 4, an ESP_INFO of L = 4, and four bytes of a parameter that ends past the end
abbrev bytes : List ℕ
bytes = hex "01c10004 00000007 00410004 00000007 00420000"

-- what stands at a place, type and length L and where its L bytes and the next parameter start
second : parameter_at bytes 8 ≡ record { kind = 65; len = 4; body = 12; next = 16 }
second = refl

-- refusal 3 by a parameter: "parameter past the end", "wrong L", or both; not by one that ends with the bytes
breaks : (map (λ (at : ℕ). broken bytes (parameter_at bytes at)) (0 ∷ 8 ∷ 16 ∷ []) ≡ false ∷ true ∷ true ∷ [])
    × (broken (hex "01c10000 000000") (parameter_at (hex "01c10000 000000") 0) ≡ true)
unfolding wrong_length
breaks = (refl, refl)

-- a step at each of them, at the last byte, at the end, and past it
steps : map (step_at bytes) (0 ∷ 8 ∷ 16 ∷ 19 ∷ 20 ∷ 21 ∷ 1000 ∷ [])
    ≡ found 449 4 8 ∷ Err (refusal 3) ∷ Err (refusal 3) ∷ Err (refusal 3) ∷ Ok None ∷ Ok None ∷ Ok None ∷ []
unfolding wrong_length
steps = refl
