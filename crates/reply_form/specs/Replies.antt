-- The bytes of a reply, and what the lent buffer holds after it.
use Rattle.std.specs.Prelude.{ℕ, zero, suc, ◌+◌, ◌-◌, ◌*◌, cond, List, [], ◌++◌, ltb, length, get_or, drop}
use Rattle.octets.specs.Written.{bytes_of}
use Rattle.parameter.specs.Types.{esp_info, seq, ack, echo_request_signed, echo_response_signed, nonce_size}
use Rattle.parameter.specs.Written.{parameter_bytes}

-- "eight nonces of 8 bytes": the nonces that a message brings
abbrev pub nonce_count : ℕ
nonce_count = 8

-- "Each writes 48 bytes"
abbrev pub check_size : ℕ
check_size = 48

-- "an 8-byte ACK"
abbrev pub ack_size : ℕ
ack_size = 8

-- order 4: "40 bytes each: the 48-byte form without its ACK"
abbrev pub resend_size : ℕ
resend_size = check_size - ack_size

-- ESP_INFO: "reserved 16 bits, KEYMAT Index 16, OLD SPI 32, NEW SPI 32", its reserved bits zero
abbrev pub esp_info_with : (keymat old new : ℕ) → List ℕ
esp_info_with keymat old new = parameter_bytes esp_info (bytes_of 2 0 ++ (bytes_of 2 keymat ++ (bytes_of 4 old ++ bytes_of 4 new)))

-- "ESP_INFO (KEYMAT Index 0, both SPIs the inbound one)"
abbrev pub esp_info_bytes : (inbound : ℕ) → List ℕ
esp_info_bytes inbound = esp_info_with 0 inbound inbound

-- "SEQ": the check's own Update ID
abbrev pub seq_bytes : (id : ℕ) → List ℕ
seq_bytes id = parameter_bytes seq (bytes_of 4 id)

-- "ACK of the peer's ID"
abbrev pub ack_bytes : (peer : ℕ) → List ℕ
ack_bytes peer = parameter_bytes ack (bytes_of 4 peer)

-- "ECHO_REQUEST_SIGNED with 8 nonce bytes"
abbrev pub echo_request_bytes : (nonce : ℕ) → List ℕ
echo_request_bytes nonce = parameter_bytes echo_request_signed (bytes_of nonce_size nonce)

-- what a check and its resend share: "ESP_INFO .., SEQ, .., ECHO_REQUEST_SIGNED", with what stands between
abbrev pub check_with : (inbound id nonce : ℕ) → (between : List ℕ) → List ℕ
check_with inbound id nonce between = esp_info_bytes inbound ++ (seq_bytes id ++ (between ++ echo_request_bytes nonce))

-- "Each writes 48 bytes: ESP_INFO .., SEQ, ACK of the peer's ID, ECHO_REQUEST_SIGNED"
abbrev pub check_bytes : (inbound peer id nonce : ℕ) → List ℕ
check_bytes inbound peer id nonce = check_with inbound id nonce (ack_bytes peer)

-- order 4: a check that is sent again, "the 48-byte form without its ACK, with the inbound SPI now held and its first Update ID and nonce"
abbrev pub resend_bytes : (inbound id nonce : ℕ) → List ℕ
resend_bytes inbound id nonce = check_with inbound id nonce []

-- so many checks from check k on: they "take them in order and own Update IDs in order"
unfoldable pub checks_bytes : (inbound peer next : ℕ) → (nonces : List ℕ) → (k count : ℕ) → List ℕ
checks_bytes inbound peer next nonces k zero = []
checks_bytes inbound peer next nonces k (suc count) =
    check_bytes inbound peer (next + k) (get_or nonces k 0) ++ checks_bytes inbound peer next nonces (k + 1) count

-- what a Move with so many new checks writes: "A Move without new checks writes an 8-byte ACK alone."
unfoldable pub move_bytes : (inbound peer next : ℕ) → (nonces : List ℕ) → (checks : ℕ) → List ℕ
move_bytes inbound peer next nonces zero = ack_bytes peer
move_bytes inbound peer next nonces (suc checks) = checks_bytes inbound peer next nonces 0 (suc checks)

-- how many bytes that is
abbrev pub move_size : (checks : ℕ) → ℕ
move_size zero = ack_size
move_size (suc checks) = check_size * suc checks

-- order 1: "an echo response with the same opaque bytes"
abbrev pub echo_response_bytes : (opaque : List ℕ) → List ℕ
echo_response_bytes opaque = parameter_bytes echo_response_signed opaque

-- a Check "gets an ACK of the peer's ID and an echo response with the same opaque bytes"
unfoldable pub response_bytes : (peer : ℕ) → (opaque : List ℕ) → List ℕ
response_bytes peer opaque = ack_bytes peer ++ echo_response_bytes opaque

-- what a buffer of this length takes of a reply: all of it, or nothing where it does not fit
abbrev pub fitted : (room : ℕ) → (reply : List ℕ) → List ℕ
fitted room reply = cond (ltb room (length reply)) [] reply

-- a buffer after a reply: the reply, and "Bytes past the reply are untouched."
abbrev pub overwritten : (reply buffer : List ℕ) → List ℕ
overwritten reply buffer = reply ++ drop (length reply) buffer
