-- Two of ours agree. Assumes nothing.
use Prim.Native.Nat.{ℕ, zero, suc, ◌+◌, ◌^◌, ◌<◌, ◌≤◌}
use mathlib.Core.Path.{◌≡◌, refl, ap, ◌∙◌}
use mathlib.Core.Bool.{true, false}
use mathlib.Core.List.{List, [], ◌∷◌}
use lib.ListN.{length, get_or, replicate, length-replicate, length-map}
use native.Mathlib.Omega.{arith}
use borrow.Author.Tests.{ltb-false}
use Rattle.std.specs.Prelude.{Ok, Some}
use Rattle.octets.specs.Written.{bytes_of}
use Rattle.address.specs.declared.Address.{Address}
use Rattle.parameter.specs.Types.{echo_request_signed, echo_response_signed, nonce_size}
use Rattle.locator.specs.declared.ListedLocator.{ListedLocator}
use Rattle.slot.specs.declared.Check.{Check}
use Rattle.slot.specs.declared.Status.TheVariants.{Unverified, Active}
use Rattle.slot.specs.Found.{slot_count, status_in}
use Rattle.packet.specs.declared.EchoResponse.TheVariants.{Nonce}
use Rattle.packet.specs.declared.MoveFields.{MoveFields}
use Rattle.reply_form.specs.Replies.{check_bytes, response_bytes}
use Rattle.association.specs.declared.Association.{Association}
use Rattle.association.specs.Form.{id_limit, refusal0}
use Rattle.association.proofs.Sound.{Formed}
use Rattle.announcement.specs.Listed.{as_listed}
use Rattle.announcement.proofs.Ends.{Passed}
use Rattle.announcement.proofs.Kept.{announcement_keeps}
use Rattle.readdress.specs.Checks.{new_check, checked_by}
use Rattle.update.specs.Messages.{Handled, checks_of, moved, responded, replied}
use Rattle.update.proofs.Kept.{message_keeps}
use Rattle.update.specs.declared.Received.TheVariants.{Replied}
use Rattle.round_trip.specs.Each.{Each}
use Rattle.round_trip.proofs.Accepted.{is_passed, few_entries}
use Rattle.agreement.specs.Sent.{packet_of, Below}
use Rattle.agreement.specs.Checked.{check_in}
use Rattle.agreement.specs.Agreement.{Delivery, Delivered, hears, Meeting, entries, fields, listed, announcement, reception, check, check_id, response, Meets, New, Agrees, TwoOfOursAgree}
use Rattle.agreement.proofs.Accepted.{announcement_accepted}
use Rattle.agreement.proofs.Checked.{checks_stand_in_order, check_answered}
use Rattle.agreement.proofs.Answered.{answer_verifies}
use Rattle.agreement.proofs.Given.{Given, new_given}

-- ---- what is delivered, where it is known what was written
-- a check is answered
check_heard : (inbound peer id nonce : ℕ) (l : List ℕ) → l ≡ check_bytes inbound peer id nonce → (w : Delivery) → Delivered w l echo_request_signed
    → (c : Association) → refusal0 c ≡ false → id < 2 ^ 32 → Below c.peer id → hears c l w ≡ responded c id (bytes_of nonce_size nonce)
check_heard inbound peer id nonce l e w d c unrefused0 small below =
    let there : Delivered w (check_bytes inbound peer id nonce) echo_request_signed = rw e at d in
    ap (λ (s : List ℕ). hears c s w) e
    ∙ check_answered inbound peer id nonce w.header w.tail there.behind c w.nonces w.room
    (record { listens = record { unrefused0 = unrefused0; unrefused1 = there.unrefused1 }; sized = small; below = below })

-- an answer turns the address ACTIVE
answer_heard : (id : ℕ) (check : Check) (l : List ℕ) → l ≡ response_bytes id (bytes_of nonce_size check.nonce) → (v : Delivery)
    → Delivered v l echo_response_signed
    → (d : Association) → refusal0 d ≡ false → (x : Address) → status_in x d.slots ≡ Some (Unverified check) → check.nonce < 2 ^ 64
    → ((hears d l v).outcome ≡ Ok Replied) × (status_in x (hears d l v).left.slots ≡ Some Active)
answer_heard id check l e v given d unrefused0 x unverified small =
    let there : Delivered v (response_bytes id (bytes_of nonce_size check.nonce)) echo_response_signed = rw e at given in
    let q = answer_verifies id check v.header v.tail there.behind d v.nonces v.room x
    (record { listens = record { unrefused0 = unrefused0; unrefused1 = there.unrefused1 }; unverified = unverified; sized = small }) in
    let same : hears d l v ≡ replied d (Nonce check.nonce) = ap (λ (s : List ℕ). hears d s v) e ∙ q.0 in
    (ap (λ (h : Handled). h.outcome) same, ap (λ (h : Handled). status_in x h.left.slots) same ∙ q.1)

-- what holds of each nonce holds of nonce k
nonce_small : (ns : List ℕ) (k : ℕ) → Each (λ (n : ℕ). n < 2 ^ 64) ns → get_or ns k 0 < 2 ^ 64
unfolding Each
nonce_small [] k h = omega arith
nonce_small (n ∷ ns) zero h = h.0
nonce_small (n ∷ ns) (suc k) h = nonce_small ns k h.1

-- ---- the whole
module _ (e : Meeting) (h : Meets e) where
  abbrev m : MoveFields
  m = fields e

  abbrev set : List ListedLocator
  set = listed e

  abbrev nonces : List ℕ
  nonces = e.over.nonces

  passed : Passed e.ours e.list e.count e.inbound e.keymat e.room
  passed = is_passed e.ours e.list e.count e.inbound e.keymat e.room h.sent.accepted

  is_moved : reception e ≡ moved e.peers m set nonces
  is_moved =
      announcement_accepted e.ours e.list e.count e.inbound e.keymat e.room e.over.header e.over.tail h.sent e.peers nonces
      e.over.room h.awaits

  -- refusal 0 does not refuse us after the announcement, nor the peer's association after it
  ours_sound : refusal0 (announcement e).left ≡ false
  ours_sound =
      let kept = announcement_keeps e.list e.count e.inbound e.keymat (replicate e.room 0) e.ours
      (record { whole = h.slots; unrefused = passed.sound }) in
      rw (length-replicate {A = ℕ} e.room 0) at kept.unrefused

  peers_formed : Formed e.peers
  peers_formed = record { whole = h.peer_slots; unrefused = h.awaits.listens.unrefused0 }

  peers_sound : refusal0 (reception e).left ≡ false
  peers_sound =
      let packet : List ℕ = packet_of e.over.header (announcement e).bytes e.over.tail in
      let kept = message_keeps packet true nonces h.eight (replicate e.over.room 0) e.peers peers_formed in
      rw (length-replicate {A = ℕ} e.over.room 0) at kept.unrefused

  module _ (x : Address) (new : New e x) where
    few : length set ≤ slot_count
    few =
        let most = few_entries e.ours e.list e.count e.inbound e.keymat e.room passed in
        rw (length-map (entries e) (as_listed e.inbound)) most

    -- the address has check k
    g : Given e.peers m set nonces x
    g = new_given e.peers m set nonces x peers_formed few refl new.is_listed_lem new.is_new

    abbrev nonce : ℕ
    nonce = get_or nonces g.k 0

    id_small : check_id e g.k < 2 ^ 32
    id_small = omega (arith, ltb-false id_limit (e.peers.next + checks_of e.peers m set) h.awaits.unrefused11, g.within)

    check_is : check e g.k ≡ check_bytes e.peers.inbound e.ours.next (check_id e g.k) nonce
    check_is =
        ap (λ (y : Handled). check_in y.reply g.k) is_moved
        ∙ checks_stand_in_order e.peers.inbound e.ours.next e.peers.next nonces (checks_of e.peers m set) g.k g.within

    has_check : status_in x (reception e).left.slots ≡ Some (checked_by e.peers.time e.peers.next nonces g.k)
    has_check = ap (λ (y : Handled). status_in x y.left.slots) is_moved ∙ g.status

    response_is : (w : Delivery) → Delivered w (check e g.k) echo_request_signed → Below (announcement e).left.peer (check_id e g.k)
        → response e g.k w ≡ responded (announcement e).left (check_id e g.k) (bytes_of nonce_size nonce)
    response_is w d below =
        check_heard e.peers.inbound e.ours.next (check_id e g.k) nonce (check e g.k) check_is w d (announcement e).left ours_sound id_small below

    agrees : Agrees e x
    agrees = record {
      accepted = ap (λ (y : Handled). y.outcome) is_moved;
      k = g.k;
      written = rw is_moved g.within;
      checks = has_check;
      answered = λ w d below. ap (λ (y : Handled). y.outcome) (response_is w d below);
      verified =
          λ w v d below given.
          answer_heard (check_id e g.k) (new_check e.peers.time e.peers.next nonces g.k) (response e g.k w).reply
          (ap (λ (y : Handled). y.reply) (response_is w d below)) v given (reception e).left peers_sound x has_check (nonce_small nonces g.k h.sized);
    }

-- Two of ours agree
pub two_of_ours_agree : TwoOfOursAgree
two_of_ours_agree = agrees
