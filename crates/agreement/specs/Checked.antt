-- Law 3, its second part, in the words of `Agreement.antt`: each check of the reply "is a Check to us". The claims and their premises; `proofs/Checked.antt` proves
-- them.
use Rattle.std.specs.Prelude.{ℕ, ◌+◌, ◌*◌, ◌^◌, ◌<◌, ◌≡◌, true, List, get_or, take, drop}
use Rattle.octets.specs.Written.{bytes_of}
use Rattle.parameter.specs.Types.{echo_request_signed, nonce_size}
use Rattle.reply_form.specs.Replies.{check_size, check_bytes, move_bytes}
use Rattle.association.specs.declared.Association.{Association}
use Rattle.update.specs.Messages.{responded, handled}
use Rattle.round_trip.specs.Wire.{WireParameter}
use Rattle.agreement.specs.Sent.{packet_of, Behind, Listens, Below}

-- check k of a reply: "Each writes 48 bytes"
abbrev pub check_in : (reply : List ℕ) → (k : ℕ) → List ℕ
check_in reply k = take check_size (drop (check_size * k) reply)

-- "New checks .. take them in order and own Update IDs in order.": check k has nonce k and the own Update ID next + k
abbrev pub StandInOrder : Type 0
StandInOrder =
    (inbound peer next : ℕ) (nonces : List ℕ) (checks k : ℕ) → k < checks
    → check_in (move_bytes inbound peer next nonces checks) k ≡ check_bytes inbound peer (next + k) (get_or nonces k 0)

-- the premises: of our association c, the length of its reply buffer, and the check's own Update ID
pub record Asked (c : Association) (room id : ℕ) : Type 0 where
  pub listens : Listens c room
  -- the number is of its width
  pub sized : id < 2 ^ 32
  -- "where our highest peer ID, if any, is below the check's"
  pub below : Below c.peer id

-- "the check .., behind a header, is a Check to us, accepted": it is answered with its ID and its nonce
abbrev pub IsAnswered : Type 0
IsAnswered =
    (inbound peer id nonce : ℕ) (header : List ℕ) (tail : List WireParameter) → Behind header (check_bytes inbound peer id nonce) tail echo_request_signed
    → (c : Association) (nonces : List ℕ) (room : ℕ) → Asked c room id
    → handled c (packet_of header (check_bytes inbound peer id nonce) tail) true nonces room ≡ responded c id (bytes_of nonce_size nonce)
