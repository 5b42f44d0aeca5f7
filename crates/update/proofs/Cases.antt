-- What holds of each way in which a message can end holds of the answer. Assumes nothing.
use mathlib.Core.Path.{◌≡◌}
use mathlib.Core.Bool.{Bool, true, false}
use mathlib.Core.List.{List}
use Prim.Native.Nat.{ℕ}
use borrow.Author.Tests.{not-false}
use Rattle.boolean.proofs.Laws.{cond_all}
use Rattle.packet.specs.declared.EchoResponse.{EchoResponse}
use Rattle.packet.specs.declared.MoveFields.{MoveFields}
use Rattle.packet.specs.Readings.{reading_of}
use Rattle.locator.specs.declared.ListedLocator.{ListedLocator}
use Rattle.readdress.specs.Echoes.{refusal8}
use Rattle.readdress.specs.Checks.{refusal10}
use Rattle.association.specs.declared.Association.{Association}
use Rattle.association.specs.Form.{refusal0}
use Rattle.update.specs.Refusals.{refusal1, refusal2, refusal7, repeats, refusal9, refusal11, refusal22}
use Rattle.update.specs.Messages.{Handled, checks_of, refused, repeated, replied, moved, responded, repeated_check, handle_reply, handle_move, handle_check, handle_reading, handled}

module _ (P : Handled → Type 0) (a : Association) (refusals : (n : ℕ) → P (refused n a)) where
  -- a Reply: refused, or accepted
  pub reply_ends : (e : EchoResponse) → P (replied a e) → P (handle_reply a e)
  unfolding handle_reply
  reply_ends e done = cond_all P (refusal8 e a.slots) (refused 8 a) (replied a e) (λ q. refusals 8) (λ q. done)

  -- a Move: refused, Repeated, or accepted with nonces and Update IDs that refusals 10 and 11 let pass
  pub move_ends : (m : MoveFields) (set : List ListedLocator) (nonces : List ℕ) → P (repeated a m.id) →
      (refusal10 nonces a.slots ≡ false → refusal11 a.next (checks_of a m set) ≡ false → P (moved a m set nonces)) → P (handle_move a m set nonces)
  unfolding handle_move
  move_ends m set nonces again done =
      cond_all P (refusal7 m.id a.peer) (refused 7 a) _ (λ q. refusals 7)
      (λ q. cond_all P (repeats m.id a.peer) (repeated a m.id) _ (λ q. again)
      (λ q. cond_all P (refusal8 m.echo a.slots) (refused 8 a) _ (λ q. refusals 8)
      (λ q. cond_all P (refusal9 a.outbound m.old m.new set) (refused 9 a) _ (λ q. refusals 9)
      (λ q. cond_all P (refusal10 nonces a.slots) (refused 10 a) _ (λ q. refusals 10)
      (λ q. cond_all P (refusal11 a.next (checks_of a m set)) (refused 11 a) (moved a m set nonces) (λ r. refusals 11) (λ r. done q r))))))

  -- a Check: refused, Repeated, or accepted with opaque bytes that refusal 22 lets pass
  pub check_ends : (id : ℕ) (opaque : List ℕ) → (refusal22 opaque ≡ false → P (repeated_check a id opaque)) → (refusal22 opaque ≡ false → P (responded a id opaque)) →
      P (handle_check a id opaque)
  unfolding handle_check
  check_ends id opaque again done =
      cond_all P (refusal22 opaque) (refused 22 a) _ (λ q. refusals 22)
      (λ q. cond_all P (refusal7 id a.peer) (refused 7 a) _ (λ r. refusals 7)
      (λ r. cond_all P (repeats id a.peer) (repeated_check a id opaque) (responded a id opaque) (λ t. again q) (λ t. done q)))

  -- a message: refused by 0, 1 or 2, or lent room for the reply, authentic, and read
  pub message_ends : (packet : List ℕ) (authentic : Bool) (nonces : List ℕ) (room : ℕ) →
      (refusal0 a ≡ false → refusal1 room ≡ false → authentic ≡ true → P (handle_reading a packet (reading_of packet) nonces)) → P (handled a packet authentic nonces room)
  unfolding handled
  message_ends packet authentic nonces room read =
      cond_all P (refusal0 a) (refused 0 a) _ (λ q. refusals 0)
      (λ p. cond_all P (refusal1 room) (refused 1 a) _ (λ q. refusals 1)
      (λ q. cond_all P (refusal2 authentic) (refused 2 a) (handle_reading a packet (reading_of packet) nonces) (λ r. refusals 2)
      (λ r. read p q (not-false authentic r))))
