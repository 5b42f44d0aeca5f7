-- "what we answer, behind a header, is a Reply to it that turns that address ACTIVE". Assumes nothing.
use Prim.Native.Nat.{ℕ, ◌^◌, ◌<◌}
use mathlib.Core.Path.{◌≡◌, refl, sym, ap, ◌∙◌}
use mathlib.Core.Bool.{true}
use mathlib.Core.List.{List, [], ◌∷◌, ◌++◌, append_assoc}
use lib.ListN.{length}
use native.Mathlib.Omega.{arith}
use borrow.Author.Tests.{eq-eqb}
use Rattle.std.specs.Prelude.{Ok, Result, Some}
use Rattle.octets.specs.Numbers.{number_at}
use Rattle.octets.specs.Written.{bytes_of}
use Rattle.refusal.specs.declared.Refusal.{Refusal}
use Rattle.address.specs.declared.Address.{Address}
use Rattle.parameter.specs.Types.{ack, echo_response_signed, nonce_size, refused_type, wrong_length}
use Rattle.frame.specs.Header.{header_size, header_holds}
use Rattle.frame.specs.Survey.{occurs}
use Rattle.slot.specs.declared.Check.{Check}
use Rattle.slot.specs.declared.Slot.{Slot}
use Rattle.slot.specs.declared.Status.TheVariants.{Unverified, Active}
use Rattle.slot.specs.Found.{status_in}
use Rattle.slots.specs.Rules.{is_outstanding}
use Rattle.packet.specs.declared.EchoResponse.TheVariants.{Nonce}
use Rattle.packet.specs.declared.Message.{Message}
use Rattle.packet.specs.declared.Message.TheVariants.{Reply}
use Rattle.packet.specs.Kinds.{is_move, is_reply}
use Rattle.packet.specs.Readings.{reading_of}
use Rattle.packet.proofs.Choices.{kind_reply}
use Rattle.readdress.specs.Echoes.{verify_all}
use Rattle.readdress.proofs.Settled.{verified_status}
use Rattle.reply_form.specs.Replies.{response_bytes}
use Rattle.association.specs.declared.Association.{Association}
use Rattle.update.specs.Messages.{replied, handle_reply, handle_reading}
use Rattle.round_trip.specs.Wire.{WireParameter, wires_bytes, Tail}
use Rattle.round_trip.proofs.Wire.{written, written_bytes, field_read}
use Rattle.round_trip.proofs.Runs.{EachStands, placed}
use Rattle.round_trip.proofs.Formed.{Formed, formed_stands, tail_formed}
use Rattle.agreement.specs.Sent.{packet_of}
use Rattle.agreement.specs.Answered.{TurnsActive}
use Rattle.agreement.proofs.Heard.{heard}
use Rattle.agreement.proofs.Surveyed.{passes, seen_of, kind_read}

-- ---- our answer behind a header
module _ (id nonce : ℕ) where
  -- ACK and ECHO_RESPONSE_SIGNED
  abbrev two : List WireParameter
  two = written ack (bytes_of 4 id) ∷ written echo_response_signed (bytes_of nonce_size nonce) ∷ []

  written_two : (tail : List WireParameter) → response_bytes id (bytes_of nonce_size nonce) ++ wires_bytes tail ≡ wires_bytes (two ++ tail)
  unfolding wires_bytes response_bytes
  written_two tail = simp (written_bytes, append_assoc)

  module _ (tail : List WireParameter) (follow : Tail echo_response_signed tail) where
    reply_formed : Formed 0 (two ++ tail)
    unfolding Formed wrong_length refused_type bytes_of
    reply_formed = (
      passes 0 ack (bytes_of 4 id) (omega arith) (omega arith) (omega arith) refl refl,
      (
        passes ack echo_response_signed (bytes_of nonce_size nonce) (omega arith) (omega arith) (omega arith) refl refl,
        tail_formed echo_response_signed tail follow,
      ),
    )

    module _ (header : List ℕ) (long : length header ≡ header_size) where
      abbrev packet : List ℕ
      packet = header ++ wires_bytes (two ++ tail)

      stand : EachStands packet header_size (two ++ tail)
      stand = formed_stands header (two ++ tail) long reply_formed

      nonce_read : nonce < 2 ^ 64 → number_at packet 52 nonce_size ≡ nonce
      unfolding EachStands bytes_of
      nonce_read h = field_read packet 48 (written echo_response_signed (bytes_of nonce_size nonce)) stand.1.0 nonce_size nonce [] [] refl h

      reply_read : nonce < 2 ^ 64 → header_holds packet ≡ true → reading_of packet ≡ Ok (Reply (Nonce nonce))
      unfolding is_move is_reply occurs placed bytes_of
      reply_read h rule =
          kind_read header two tail echo_response_signed long follow reply_formed rule
          ∙ sym (kind_reply packet (seen_of two) refl refl)
          ∙ ap (λ (n : ℕ). Ok (Reply (Nonce n))) (nonce_read h)

-- ---- the address that it verifies
-- the nonce of an address that is UNVERIFIED is outstanding
nonce_outstanding : (x : Address) (check : Check) (ss : List Slot) → status_in x ss ≡ Some (Unverified check) → is_outstanding ss check.nonce ≡ true
unfolding status_in
nonce_outstanding x check [] h = cc
nonce_outstanding x check (s ∷ ss) h = let rest = nonce_outstanding x check ss in grind (arith, rest)

module _ (x : Address) (check : Check) (ss : List Slot) (h : status_in x ss ≡ Some (Unverified check)) where
  -- the echo of its nonce makes it ACTIVE
  turned_active : status_in x (verify_all (Nonce check.nonce) ss) ≡ Some Active
  turned_active = verified_status x (Nonce check.nonce) ss ∙ rw (h, eq-eqb check.nonce check.nonce refl)

-- a Reply that echoes an outstanding nonce is accepted
reply_accepted : (d : Association) (nonce : ℕ) → is_outstanding d.slots nonce ≡ true → handle_reply d (Nonce nonce) ≡ replied d (Nonce nonce)
unfolding handle_reply
reply_accepted d nonce h = rw h

-- "what we answer .. is a Reply to it that turns that address ACTIVE"
pub answer_verifies : TurnsActive
answer_verifies id check header tail sent d nonces room x h =
    let nonce : ℕ = check.nonce in
    let packet : List ℕ = packet_of header (response_bytes id (bytes_of nonce_size nonce)) tail in
    let parts : packet ≡ header ++ wires_bytes (two id nonce ++ tail) = ap (λ (l : List ℕ). header ++ l) (written_two id nonce tail) in
    let rule = sym (ap header_holds parts) ∙ sent.rule in
    let read = reply_read id nonce tail sent.follow header sent.long h.sized rule in (
      heard d packet nonces room h.listens
          ∙ ap (λ (r : Result Message Refusal). handle_reading d packet r nonces) (ap reading_of parts ∙ read)
          ∙ reply_accepted d nonce (nonce_outstanding x check d.slots h.unverified),
      turned_active x check d.slots h.unverified,
    )
