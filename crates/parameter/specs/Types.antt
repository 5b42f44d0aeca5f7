-- The types of parameters: which are known, which are refused, and the lengths that three of them must have.
use Rattle.std.specs.Prelude.{ℕ, ◌%◌, Bool, false, not, cond, ◌&&◌, ◌||◌, List, [], ◌∷◌, eqb}
use Rattle.std.specs.List.{list_any}

-- the known types, by their names
abbrev pub esp_info : ℕ
esp_info = 65

abbrev pub locator_set : ℕ
locator_set = 193

abbrev pub seq : ℕ
seq = 385

abbrev pub ack : ℕ
ack = 449

abbrev pub host_id : ℕ
host_id = 705

abbrev pub echo_request_signed : ℕ
echo_request_signed = 897

abbrev pub echo_response_signed : ℕ
echo_response_signed = 961

abbrev pub hip_mac : ℕ
hip_mac = 61505

abbrev pub hip_signature : ℕ
hip_signature = 61697

-- the types that are known and may be received; order 1: "type 897 becomes known"
abbrev pub received : List ℕ
received = esp_info ∷ locator_set ∷ seq ∷ ack ∷ host_id ∷ echo_request_signed ∷ echo_response_signed ∷ hip_mac ∷ hip_signature ∷ []

-- "Another even type is stepped over; another odd type .. is refused."
unfoldable pub refused_type : ℕ → Bool
refused_type kind = eqb (kind % 2) 1 && not (list_any (eqb kind) received)

-- "ESP_INFO 65 has L = 12"
abbrev pub esp_info_length : ℕ
esp_info_length = 12

-- "SEQ 385 has L = 4"
abbrev pub seq_length : ℕ
seq_length = 4

-- "ACK 449 has L a positive multiple of 4"
abbrev pub ack_unit : ℕ
ack_unit = 4

-- "nonces of 8 bytes"
abbrev pub nonce_size : ℕ
nonce_size = 8

-- another length is wrong for these three
unfoldable pub wrong_length : ℕ → ℕ → Bool
wrong_length kind len =
    cond (eqb kind esp_info) (not (eqb len esp_info_length))
    (cond (eqb kind seq) (not (eqb len seq_length)) (cond (eqb kind ack) (eqb len 0 || not (eqb (len % ack_unit) 0)) false))
