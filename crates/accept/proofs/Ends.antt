-- How a Move ends: Repeated, refused by 11, or with its reply written. Assumes nothing.
use Prim.Native.Nat.{ℕ, ◌≤◌}
use mathlib.Core.Path.{◌≡◌, refl, ap, ◌∙◌}
use mathlib.Core.Bool.{true, false}
use mathlib.Core.List.{List}
use lib.ListN.{length}
use native.Mathlib.Omega.{arith}
use Rattle.packet.specs.declared.MoveFields.{MoveFields}
use Rattle.locator.specs.declared.ListedLocator.{ListedLocator}
use Rattle.slot.specs.Found.{slot_count}
use Rattle.readdress.specs.declared.Placement.{Placement}
use Rattle.readdress.specs.Checks.{check_count}
use Rattle.readdress.specs.Moves.{new_checks}
use Rattle.reply_form.specs.Replies.{ack_bytes, move_bytes, fitted, overwritten}
use Rattle.reply_form.proofs.Sizes.{ack_length, move_length}
use Rattle.association.specs.declared.Association.{Association}
use Rattle.update.specs.Refusals.{reply_room, refusal11}
use Rattle.update.specs.declared.MessageAnswer.{MessageAnswer}
use Rattle.update.specs.Messages.{placement, checks_of, after_move, refused, repeated, moved, accepted, answer_of}
use Rattle.update.proofs.Buffers.{move_fits}
use Rattle.accept.specs.declared.Judgement.{Judgement}
use Rattle.accept.specs.Judged.{judged}
use Rattle.accept.proofs.Written.{Answers, written_whole}
use Rattle.std.specs.Prelude.{Ok, Result}
use Rattle.refusal.specs.declared.Refusal.{Refusal}
use Rattle.update.specs.declared.Received.TheVariants.{Moved, Repeated}

-- ---- a repeat
pub repeat_written : (a : Association) (id : ℕ) (b after : List ℕ) (n : ℕ) (r : MessageAnswer) → reply_room ≤ length b →
    n ≡ length (fitted (length b) (ack_bytes id)) → after ≡ overwritten (fitted (length b) (ack_bytes id)) b →
    r ≡ record { outcome = (Ok Repeated); written = n; checks = 0; keymat = 0; association = a } → Answers (repeated a id) b r after
repeat_written a id b after n r h e f g =
    let l = ack_length id in
    let w = written_whole (ack_bytes id) b after n (omega arith) e f in
    (g ∙ rw w.0, w.1)

-- ---- a Move that refusals 0 to 10 let pass
module _ (a : Association) (m : MoveFields) (set : List ListedLocator) (nonces b : List ℕ) where
  -- the reply of a Move is written whole
  pub move_written : (after : List ℕ) (n k : ℕ) (left : Association) (r : MessageAnswer) →
      reply_room ≤ length b → k ≤ slot_count → k ≡ checks_of a m set → left ≡ after_move a m set nonces →
      n ≡ length (fitted (length b) (move_bytes a.inbound m.id a.next nonces k)) →
      after ≡ overwritten (fitted (length b) (move_bytes a.inbound m.id a.next nonces k)) b →
      r ≡ record { outcome = (Ok Moved); written = n; checks = k; keymat = m.keymat; association = left } → Answers (moved a m set nonces) b r after
  move_written after n k left r h s c g e f u =
      let l = move_length a.inbound m.id a.next nonces k in
      let z = move_fits k s in
      let w = written_whole (move_bytes a.inbound m.id a.next nonces k) b after n (omega arith) e f in
      (u ∙ rw (w.0, g, c), w.1 ∙ rw c)

  -- the checks that are counted are the Move's
  pub checks_counted : (p : Placement) (k : ℕ) → p ≡ placement a m set → k ≡ check_count set p.slots → k ≡ checks_of a m set
  checks_counted p k e f = f ∙ ap (new_checks set) e

  -- refusal 11 decides, by the checks of the Move
  module _ (k : ℕ) (c : k ≡ checks_of a m set) where
    pub ids_refused : (r : MessageAnswer) → refusal11 a.next k ≡ true → r ≡ answer_of (refused 11 a) → Answers (accepted a m set nonces) b r b
    ids_refused r p e = let q : refusal11 a.next (checks_of a m set) ≡ true = rw (← c) p in rw q (e, refl)

    pub move_goes : (r : MessageAnswer) (after : List ℕ) → refusal11 a.next k ≡ false → Answers (moved a m set nonces) b r after →
        Answers (accepted a m set nonces) b r after
    move_goes r after p e = let q : refusal11 a.next (checks_of a m set) ≡ false = rw (← c) p in rw q e

-- ---- by how the Move is judged
pub judged_so : (a : Association) (m : MoveFields) (set : List ListedLocator) (nonces b : List ℕ) (j k : Result Judgement Refusal) (r : MessageAnswer) (after : List ℕ) → j ≡ k →
    Answers (judged a m set nonces k) b r after → Answers (judged a m set nonces j) b r after
judged_so a m set nonces b j k r after e f = rw e f
