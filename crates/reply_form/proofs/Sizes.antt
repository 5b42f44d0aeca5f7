-- How many bytes a reply has. Assumes nothing.
use mathlib.Core.Path.{◌≡◌, refl, ◌∙◌}
use mathlib.Core.List.{List, []}
use Prim.Native.Nat.{ℕ, zero, suc, ◌+◌, ◌*◌, ◌≤◌}
use lib.ListN.{length, get_or, length-append, length-drop}
use native.Mathlib.Omega.{arith}
use Rattle.octets.specs.Written.{bytes_of}
use Rattle.octets.proofs.Sizes.{bytes_length}
use Rattle.parameter.specs.Types.{ack, echo_response_signed}
use Rattle.parameter.specs.Parameters.{takes}
use Rattle.parameter.specs.Written.{parameter_bytes}
use Rattle.parameter.proofs.Sizes.{parameter_length}
use Rattle.reply_form.specs.Replies.{check_size, ack_size, resend_size, esp_info_with, ack_bytes, echo_request_bytes, echo_response_bytes, check_with, check_bytes, resend_bytes, checks_bytes, move_bytes, move_size, response_bytes, overwritten}

-- SEQ or ACK
pub number_length : (kind value : ℕ) → length (parameter_bytes kind (bytes_of 4 value)) ≡ ack_size
number_length kind value = simp (parameter_length, bytes_length)

pub esp_info_length_lem : (keymat old new : ℕ) → length (esp_info_with keymat old new) ≡ 16
esp_info_length_lem keymat old new = simp (parameter_length, length-append, bytes_length)

pub echo_request_length : (nonce : ℕ) → length (echo_request_bytes nonce) ≡ 16
echo_request_length nonce = simp (parameter_length, bytes_length)

pub ack_length : (peer : ℕ) → length (ack_bytes peer) ≡ ack_size
ack_length peer = number_length ack peer

-- a check has what its resend has, and what stands between: so 48 bytes are 40 and the ACK's 8
with_length : (inbound id nonce : ℕ) (between : List ℕ) → length (check_with inbound id nonce between) ≡ resend_size + length between
with_length inbound id nonce between = simp (length-append, parameter_length, bytes_length) (omega arith)

pub resend_length : (inbound id nonce : ℕ) → length (resend_bytes inbound id nonce) ≡ resend_size
resend_length inbound id nonce = with_length inbound id nonce [] ∙ omega arith

pub check_length : (inbound peer id nonce : ℕ) → length (check_bytes inbound peer id nonce) ≡ check_size
check_length inbound peer id nonce = simp (length-append, parameter_length, bytes_length)

pub checks_length : (inbound peer next : ℕ) (nonces : List ℕ) (k count : ℕ) → length (checks_bytes inbound peer next nonces k count) ≡ check_size * count
unfolding checks_bytes
checks_length inbound peer next nonces k zero = refl
checks_length inbound peer next nonces k (suc count) =
    let one = check_length inbound peer (next + k) (get_or nonces k 0) in
    let rest = checks_length inbound peer next nonces (k + 1) count in
    length-append (check_bytes inbound peer (next + k) (get_or nonces k 0)) (checks_bytes inbound peer next nonces (k + 1) count) ∙ omega arith

-- 48 for each new check, or the ACK's 8
pub move_length : (inbound peer next : ℕ) (nonces : List ℕ) (checks : ℕ) → length (move_bytes inbound peer next nonces checks) ≡ move_size checks
unfolding move_bytes
move_length inbound peer next nonces zero = ack_length peer
move_length inbound peer next nonces (suc checks) = checks_length inbound peer next nonces 0 (suc checks)

-- the answer to a Check: the ACK, and the echo response by its length
pub response_length : (peer : ℕ) (opaque : List ℕ) → length (response_bytes peer opaque) ≡ ack_size + takes (length opaque)
unfolding response_bytes
response_length peer opaque =
    let one = ack_length peer in
    let rest = parameter_length echo_response_signed opaque in
    length-append (ack_bytes peer) (echo_response_bytes opaque) ∙ omega arith

-- a reply that fits leaves the buffer as long as it was
pub overwritten_length : (reply buffer : List ℕ) → length reply ≤ length buffer → length (overwritten reply buffer) ≡ length buffer
overwritten_length reply buffer h = simp (length-append, length-drop) (omega arith)
