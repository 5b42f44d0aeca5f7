-- "the check that it writes .., behind a header, is a Check to us, accepted where our highest peer ID, if any, is below the check's". Assumes nothing.
use Prim.Native.Nat.{ℕ, zero, suc, ◌+◌, ◌*◌, ◌^◌, ◌<◌}
use mathlib.Core.Path.{◌≡◌, refl, sym, ap, ◌∙◌}
use mathlib.Core.Bool.{true}
use mathlib.Core.List.{List, [], ◌∷◌, ◌++◌, append_assoc}
use lib.ListN.{length, get_or, take, drop}
use lib.Seq.{take_at, drop-append-add}
use native.Mathlib.Omega.{arith}
use Rattle.std.specs.Prelude.{Ok, Result}
use Rattle.refusal.specs.declared.Refusal.{Refusal}
use Rattle.octets.specs.Numbers.{number_at}
use Rattle.octets.specs.Written.{bytes_of}
use Rattle.octets.proofs.Sizes.{bytes_length}
use Rattle.parameter.specs.Types.{esp_info, seq, ack, echo_request_signed, nonce_size, refused_type, wrong_length}
use Rattle.frame.specs.Header.{header_size, header_holds}
use Rattle.frame.specs.Survey.{occurs}
use Rattle.packet.specs.declared.CheckFields.{CheckFields}
use Rattle.packet.specs.declared.Message.TheVariants.{PeerCheck}
use Rattle.packet.specs.declared.Message.{Message}
use Rattle.packet.specs.Kinds.{is_move, is_reply, is_check}
use Rattle.packet.specs.Readings.{opaque_of, reading_of}
use Rattle.packet.proofs.Choices.{kind_check}
use Rattle.reply_form.specs.Replies.{check_size, check_bytes, checks_bytes, move_bytes}
use Rattle.reply_form.proofs.Sizes.{check_length}
use Rattle.association.specs.declared.Association.{Association}
use Rattle.update.specs.Messages.{responded, handle_check, handle_reading}
use Rattle.round_trip.specs.Wire.{WireParameter, wires_bytes, Tail}
use Rattle.round_trip.proofs.Wire.{written, written_bytes, field_read, body_read}
use Rattle.round_trip.proofs.Runs.{EachStands, placed}
use Rattle.round_trip.proofs.Formed.{Formed, formed_stands, tail_formed}
use Rattle.agreement.specs.Sent.{packet_of, Below}
use Rattle.agreement.specs.Checked.{check_in, StandInOrder, IsAnswered}
use Rattle.agreement.proofs.Heard.{heard, below_passes}
use Rattle.agreement.proofs.Surveyed.{passes, seen_of, kind_read}

-- ---- the checks of a reply, in order
module _ (inbound peer next : ℕ) (nonces : List ℕ) where
  -- check j of those from check k on
  check_in_lem : (k count j : ℕ) → j < count
      → check_in (checks_bytes inbound peer next nonces k count) j ≡ check_bytes inbound peer (next + (k + j)) (get_or nonces (k + j) 0)
  unfolding checks_bytes
  check_in_lem k zero j h = absurd (omega arith)
  check_in_lem k (suc count) zero h =
      let none : k + 0 ≡ k = omega arith in
      rw none (take_at (check_bytes inbound peer (next + k) (get_or nonces k 0)) _ check_size (check_length inbound peer (next + k) (get_or nonces k 0)))
  check_in_lem k (suc count) (suc j) h =
      let one : List ℕ = check_bytes inbound peer (next + k) (get_or nonces k 0) in
      let more : List ℕ = checks_bytes inbound peer next nonces (k + 1) count in
      let size = check_length inbound peer (next + k) (get_or nonces k 0) in
      let there : check_size * suc j ≡ length one + check_size * j = omega arith in
      let number : k + 1 + j ≡ k + suc j = omega arith in
      ap (λ (at : ℕ). take check_size (drop at (one ++ more))) there
      ∙ ap (take check_size) (drop-append-add one more (check_size * j))
      ∙ check_in_lem (k + 1) count j (omega arith)
      ∙ ap (λ (i : ℕ). check_bytes inbound peer (next + i) (get_or nonces i 0)) number

pub checks_stand_in_order : StandInOrder
unfolding move_bytes
checks_stand_in_order inbound peer next nonces zero k h = absurd (omega arith)
checks_stand_in_order inbound peer next nonces (suc checks) k h =
    let number : 0 + k ≡ k = omega arith in
    rw number at (check_in_lem inbound peer next nonces 0 (suc checks) k h)

-- ---- a check behind a header
module _ (inbound peer id nonce : ℕ) where
  -- the L bytes of its ESP_INFO
  abbrev esp_body : List ℕ
  esp_body = bytes_of 2 0 ++ (bytes_of 2 0 ++ (bytes_of 4 inbound ++ bytes_of 4 inbound))

  -- ESP_INFO, SEQ, ACK and ECHO_REQUEST_SIGNED
  abbrev four : List WireParameter
  four =
      written esp_info esp_body
      ∷ written seq (bytes_of 4 id)
      ∷ written ack (bytes_of 4 peer)
      ∷ written echo_request_signed (bytes_of nonce_size nonce)
      ∷ []

  written_four : (tail : List WireParameter) → check_bytes inbound peer id nonce ++ wires_bytes tail ≡ wires_bytes (four ++ tail)
  unfolding wires_bytes
  written_four tail = simp (written_bytes, append_assoc)

  module _ (tail : List WireParameter) (follow : Tail echo_request_signed tail) where
    check_formed : Formed 0 (four ++ tail)
    unfolding Formed wrong_length refused_type bytes_of
    check_formed = (
      passes 0 esp_info esp_body (omega arith) (omega arith) (omega arith) refl refl,
      (
        passes esp_info seq (bytes_of 4 id) (omega arith) (omega arith) (omega arith) refl refl,
        (
          passes seq ack (bytes_of 4 peer) (omega arith) (omega arith) (omega arith) refl refl,
          (
            passes ack echo_request_signed (bytes_of nonce_size nonce) (omega arith) (omega arith) (omega arith) refl refl,
            tail_formed echo_request_signed tail follow,
          ),
        ),
      ),
    )

    module _ (header : List ℕ) (long : length header ≡ header_size) where
      abbrev packet : List ℕ
      packet = header ++ wires_bytes (four ++ tail)

      stand : EachStands packet header_size (four ++ tail)
      stand = formed_stands header (four ++ tail) long check_formed

      -- what is read of it: where its nonce stands is where its opaque bytes do
      abbrev the_check : CheckFields
      the_check = record { id = id; body = 76; len = nonce_size }

      id_read : id < 2 ^ 32 → number_at packet 60 4 ≡ id
      unfolding EachStands bytes_of
      id_read h = field_read packet 56 (written seq (bytes_of 4 id)) stand.1.0 4 id [] [] refl h

      opaque_read : opaque_of packet the_check ≡ bytes_of nonce_size nonce
      unfolding opaque_of EachStands bytes_of
      opaque_read = body_read packet 72 (written echo_request_signed (bytes_of nonce_size nonce)) stand.1.1.1.0

      check_read : id < 2 ^ 32 → header_holds packet ≡ true → reading_of packet ≡ Ok (PeerCheck the_check)
      unfolding is_move is_reply is_check occurs placed bytes_of
      check_read h rule =
          kind_read header four tail echo_request_signed long follow check_formed rule
          ∙ sym (kind_check packet (seen_of four) refl refl refl)
          ∙ ap (λ (n : ℕ). Ok (PeerCheck (record { id = n; body = 76; len = 8 }))) (id_read h)

-- a Check of eight opaque bytes that is new is answered
check_accepted : (c : Association) (id nonce : ℕ) → Below c.peer id → handle_check c id (bytes_of nonce_size nonce) ≡ responded c id (bytes_of nonce_size nonce)
unfolding handle_check
check_accepted c id nonce h = let q = below_passes c.peer id h in rw (bytes_length nonce_size nonce, q.0, q.1)

-- "the check .. is a Check to us, accepted"
pub check_answered : IsAnswered
check_answered inbound peer id nonce header tail sent c nonces room h =
    let packet : List ℕ = packet_of header (check_bytes inbound peer id nonce) tail in
    let parts : packet ≡ header ++ wires_bytes (four inbound peer id nonce ++ tail) =
    ap (λ (l : List ℕ). header ++ l) (written_four inbound peer id nonce tail) in
    let rule = sym (ap header_holds parts) ∙ sent.rule in
    let read = check_read inbound peer id nonce tail sent.follow header sent.long h.sized rule in
    let opaque = ap (λ (s : List ℕ). opaque_of s (the_check inbound peer id nonce tail sent.follow header sent.long)) parts
    ∙ opaque_read inbound peer id nonce tail sent.follow header sent.long in
    heard c packet nonces room h.listens
    ∙ ap (λ (r : Result Message Refusal). handle_reading c packet r nonces) (ap reading_of parts ∙ read)
    ∙ ap (handle_check c id) opaque
    ∙ check_accepted c id nonce h.below
