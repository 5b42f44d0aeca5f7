-- What the tests of a Move lead to, by the definition. Assumes nothing.
use Prim.Native.Nat.{ℕ}
use mathlib.Core.Path.{◌≡◌, subst}
use mathlib.Core.Bool.{true, false}
use mathlib.Core.List.{List}
use lib.ListN.{length}
use Rattle.packet.specs.declared.MoveFields.{MoveFields}
use Rattle.locator.specs.declared.ListedLocator.{ListedLocator}
use Rattle.readdress.specs.Echoes.{refusal8}
use Rattle.readdress.specs.Checks.{refusal10}
use Rattle.association.specs.declared.Association.{Association}
use Rattle.update.specs.Refusals.{refusal7, repeats, refusal9}
use Rattle.update.specs.declared.MessageAnswer.{MessageAnswer}
use Rattle.update.specs.Messages.{Handled, refused, repeated, accepted, handle_move}
use Rattle.accept.specs.Room.{guarded}
use Rattle.accept.proofs.Written.{Answers}

module _ (a : Association) (m : MoveFields) (set : List ListedLocator) (nonces : List ℕ) where
  pub stops_7 : refusal7 m.id a.peer ≡ true → refused 7 a ≡ handle_move a m set nonces
  unfolding handle_move
  stops_7 p = rw p

  pub repeat_goes : refusal7 m.id a.peer ≡ false → repeats m.id a.peer ≡ true → repeated a m.id ≡ handle_move a m set nonces
  unfolding handle_move
  repeat_goes p q = rw (p, q)

  -- it is newer than what was seen
  pub record Newer : Type 0 where
    pub higher : refusal7 m.id a.peer ≡ false
    pub other : repeats m.id a.peer ≡ false

  pub stops_8 : Newer → refusal8 m.echo a.slots ≡ true → refused 8 a ≡ handle_move a m set nonces
  unfolding handle_move
  stops_8 n p = rw (n.higher, n.other, p)

  pub stops_9 : Newer → refusal8 m.echo a.slots ≡ false → refusal9 a.outbound m.old m.new set ≡ true → refused 9 a ≡ handle_move a m set nonces
  unfolding handle_move
  stops_9 n p q = rw (n.higher, n.other, p, q)

  pub stops_10 : Newer → refusal8 m.echo a.slots ≡ false → refusal9 a.outbound m.old m.new set ≡ false → refusal10 nonces a.slots ≡ true →
      refused 10 a ≡ handle_move a m set nonces
  unfolding handle_move
  stops_10 n p q r = rw (n.higher, n.other, p, q, r)

  -- refusals 8, 9 and 10 are passed too
  pub record Tried : Type 0 where
    pub newer : Newer
    pub answered : refusal8 m.echo a.slots ≡ false
    pub bound : refusal9 a.outbound m.old m.new set ≡ false
    pub fresh : refusal10 nonces a.slots ≡ false

  -- then the answer is what is left
  pub move_goes : Tried → accepted a m set nonces ≡ handle_move a m set nonces
  unfolding handle_move
  move_goes t = rw (t.newer.higher, t.newer.other, t.answered, t.bound, t.fresh)

-- ---- the answer goes by the judgement
pub guarded_so : (a : Association) (h k : Handled) (b : List ℕ) (r : MessageAnswer) (after : List ℕ) → h ≡ k → Answers (guarded (length b) a h) b r after →
    Answers (guarded (length b) a k) b r after
guarded_so a h k b r after e f = subst (λ (x : Handled). Answers (guarded (length b) a x) b r after) e f
