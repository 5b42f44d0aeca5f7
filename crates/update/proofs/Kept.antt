-- A message keeps associations sound, and brings no more checks than there are nonces. Assumes nothing.
use mathlib.Core.Path.{◌≡◌, refl, ◌∙◌}
use mathlib.Core.Bool.{Bool, false}
use mathlib.Core.List.{List}
use Prim.Native.Nat.{ℕ, ◌+◌}
use lib.ListN.{length}
use native.Mathlib.Omega.{arith}
use borrow.Author.Tests.{ltb-false, lt-leb}
use Rattle.packet.specs.declared.EchoResponse.{EchoResponse}
use Rattle.packet.specs.declared.MoveFields.{MoveFields}
use Rattle.packet.specs.declared.Message.{Message}
use Rattle.packet.specs.declared.Message.TheVariants.{Move, Reply, PeerCheck}
use Rattle.packet.specs.Readings.{reading_of, opaque_of}
use Rattle.locator.specs.declared.ListedLocator.{ListedLocator}
use Rattle.locator_set.specs.Sets.{listed_in}
use Rattle.refusal.specs.declared.Refusal.{Refusal}
use Rattle.std.specs.Prelude.{Result, Ok, Err}
use Rattle.slot.specs.Found.{slot_count}
use Rattle.check_times.proofs.Moments.{good}
use Rattle.slots.proofs.Kept.{clear_pairs, pairs_clear, Good, good_all, all_good}
use Rattle.readdress.specs.Echoes.{verify_all}
use Rattle.readdress.specs.Checks.{refusal10}
use Rattle.reply_form.specs.Replies.{nonce_count}
use Rattle.readdress.specs.Moves.{new_slots}
use Rattle.readdress.proofs.Settled.{verified_length, verified_apart}
use Rattle.readdress.proofs.Carried.{verified_carried, moved_carried}
use Rattle.readdress.proofs.Moved.{preference_kept, moved_length, moved_apart}
use Rattle.association.specs.declared.Association.{Association}
use Rattle.association.specs.Form.{id_limit, beyond}
use Rattle.association.proofs.Sound.{sound, not_refused, Formed, Keeps}
use Rattle.update.specs.Refusals.{refusal11}
use Rattle.update.proofs.Cases.{reply_ends, move_ends, check_ends, message_ends}
use Rattle.update.specs.Messages.{Handled, after_reply, after_check, differs, placement, checks_of, after_move, handle_message, handle_reading, message_of}

abbrev LeavesFormed : Handled → Type 0
LeavesFormed h = Formed h.left

reply_formed : (a : Association) (e : EchoResponse) → Formed a → Formed (after_reply a e)
reply_formed a e p =
    let s = sound a p.unrefused in
    record {
      whole = verified_length e a.slots ∙ p.whole;
      unrefused =
          not_refused (after_reply a e)
          (record {
            time = s.time;
            aged = s.aged;
            credit = s.credit;
            next = s.next;
            preferred = s.preferred;
            apart = pairs_clear (verify_all e a.slots) (verified_apart e a.slots (clear_pairs a.slots s.apart));
            checks = all_good a.time (verify_all e a.slots) (verified_carried (Good a.time) e a.slots (good_all a.time a.slots s.checks));
          });
    }

-- a Check stores its ID, which refusal 0 does not judge
check_formed : (a : Association) (id : ℕ) → Formed a → Formed (after_check a id)
check_formed a id p =
    let s = sound a p.unrefused in
    record {
      whole = p.whole;
      unrefused =
          not_refused (after_check a id)
          (record { time = s.time; aged = s.aged; credit = s.credit; next = s.next; preferred = s.preferred; apart = s.apart; checks = s.checks });
    }

module _ (a : Association) (m : MoveFields) (set : List ListedLocator) (nonces : List ℕ) (eight : length nonces ≡ nonce_count) (p : Formed a) where
  move_formed : refusal10 nonces a.slots ≡ false → refusal11 a.next (checks_of a m set) ≡ false → Formed (after_move a m set nonces)
  unfolding after_move
  move_formed q r =
      let s = sound a p.unrefused in
      let apart = moved_apart a.time (differs a m) m.echo set a.preferred a.slots p.whole a.next nonces eight q (clear_pairs a.slots s.apart) in
      record {
        whole = moved_length a.time (differs a m) m.echo set a.preferred a.slots p.whole a.next nonces;
        unrefused =
            not_refused (after_move a m set nonces)
            (record {
              time = s.time;
              aged = s.aged;
              credit = s.credit;
              next = ltb-false id_limit (a.next + checks_of a m set) r;
              preferred =
                  preference_kept a.time (differs a m) m.echo set a.preferred a.slots p.whole (λ k. beyond k ≡ false) refl
                  (λ n h. lt-leb slot_count n h) s.preferred;
              apart = pairs_clear (new_slots set a.time a.next nonces (placement a m set)) apart;
              checks =
                  all_good a.time (new_slots set a.time a.next nonces (placement a m set))
                  (moved_carried (Good a.time) a.time (differs a m) m.echo set a.preferred a.next nonces a.slots
                  (λ j h. good a.time 0 a.time (omega arith) (omega arith)) (good_all a.time a.slots s.checks));
            });
      }

handled_message_formed : (a : Association) (packet : List ℕ) (g : Message) (nonces : List ℕ) → length nonces ≡ nonce_count → Formed a →
    LeavesFormed (handle_message a packet g nonces)
handled_message_formed a packet (PeerCheck c) nonces eight p =
    check_ends LeavesFormed a (λ n. p) c.id (opaque_of packet c) (λ q. p) (λ q. check_formed a c.id p)
handled_message_formed a packet (Move m s) nonces eight p =
    move_ends LeavesFormed a (λ n. p) m (listed_in s) nonces p (λ q r. move_formed a m (listed_in s) nonces eight p q r)
handled_message_formed a packet (Reply e) nonces eight p = reply_ends LeavesFormed a (λ n. p) e (reply_formed a e p)

handled_reading_formed : (a : Association) (packet : List ℕ) (r : Result Message Refusal) (nonces : List ℕ) → length nonces ≡ nonce_count → Formed a →
    LeavesFormed (handle_reading a packet r nonces)
handled_reading_formed a packet (Err why) nonces eight p = p
handled_reading_formed a packet (Ok g) nonces eight p = handled_message_formed a packet g nonces eight p

-- no message makes an association that refusal 0 refuses
pub message_keeps : (packet : List ℕ) (authentic : Bool) (nonces : List ℕ) → length nonces ≡ nonce_count → (buffer : List ℕ) →
    Keeps (λ a. (message_of a packet authentic nonces buffer).association)
message_keeps packet authentic nonces eight buffer a p =
    message_ends LeavesFormed a (λ n. p) packet authentic nonces (length buffer)
    (λ q r s. handled_reading_formed a packet (reading_of packet) nonces eight p)
