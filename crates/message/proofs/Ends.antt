-- How a message ends: the answer and the buffer, from the definition's answer. Assumes nothing.
use Prim.Native.Nat.{ℕ}
use mathlib.Core.Path.{◌≡◌, refl, ap, ◌∙◌}
use mathlib.Core.Bool.{Bool, true, false}
use mathlib.Core.List.{List}
use lib.ListN.{length}
use Rattle.refusal.specs.declared.Refusal.{Refusal}
use Rattle.packet.specs.declared.EchoResponse.{EchoResponse}
use Rattle.packet.specs.declared.MoveFields.{MoveFields}
use Rattle.packet.specs.declared.CheckFields.{CheckFields}
use Rattle.packet.specs.declared.Message.TheVariants.{Move, Reply, PeerCheck}
use Rattle.packet.specs.declared.Message.{Message}
use Rattle.locator_set.specs.declared.LocatorSet.{LocatorSet}
use Rattle.locator_set.specs.Sets.{listed_in}
use Rattle.std.specs.Prelude.{Result, Ok, Err}
use Rattle.packet.specs.Readings.{reading_of, opaque_of}
use Rattle.reply_form.specs.Replies.{overwritten}
use Rattle.association.specs.declared.Association.{Association}
use Rattle.association.specs.Form.{refusal0}
use Rattle.association.proofs.Sound.{sound}
use Rattle.update.specs.Refusals.{refusal1, refusal2}
use Rattle.update.specs.declared.MessageAnswer.{MessageAnswer}
use Rattle.update.specs.Messages.{Handled, declined, refused, handle_reply, handle_move, handle_check, handle_reading, handled, answer_of, message_of, buffer_after}
use Rattle.update.proofs.Cases.{reply_ends}
use Rattle.accept.specs.Room.{guarded}
use Rattle.accept.proofs.Written.{lets_pass}
use Rattle.respond.specs.Room.{roomy}

-- "A Reply writes nothing."
pub reply_unwritten : (a : Association) (echo : EchoResponse) (b : List ℕ) → b ≡ overwritten (handle_reply a echo).reply b
reply_unwritten a echo b = reply_ends (λ (h : Handled). b ≡ overwritten h.reply b) a (λ n. refl) echo refl

-- ---- the answer is the definition's
-- what a call is given
pub record Lent : Type 0 where
  pub association : Association
  pub packet : List ℕ
  pub authentic : Bool
  pub nonces : List ℕ
  pub buffer : List ℕ

-- the definition's answer to it
abbrev pub handled_of : Lent → Handled
handled_of x = handled x.association x.packet x.authentic x.nonces (length x.buffer)

-- the answer and the buffer afterwards are the definition's
abbrev pub Answered : Lent → MessageAnswer → (after : List ℕ) → Type 0
Answered x r after =
    (r ≡ message_of x.association x.packet x.authentic x.nonces x.buffer)
    × (after ≡ buffer_after x.association x.packet x.authentic x.nonces x.buffer)

module _ (x : Lent) where
  -- the call ends so
  pub ends : (r : MessageAnswer) (after : List ℕ) (h : Handled) → r ≡ answer_of h → after ≡ overwritten h.reply x.buffer → h ≡ handled_of x → Answered x r after
  ends r after h e f g = (e ∙ ap answer_of g, f ∙ ap (λ (k : Handled). overwritten k.reply x.buffer) g)

  -- a refusal ends so: nothing is written
  pub ends_refused : (r : MessageAnswer) (number : ℕ) → r ≡ answer_of (refused number x.association) → refused number x.association ≡ handled_of x →
      Answered x r x.buffer
  ends_refused r number e g = ends r x.buffer (refused number x.association) e refl g

  pub stops_0 : refusal0 x.association ≡ true → refused 0 x.association ≡ handled_of x
  unfolding handled
  stops_0 p = rw p

  pub stops_1 : refusal0 x.association ≡ false → refusal1 (length x.buffer) ≡ true → refused 1 x.association ≡ handled_of x
  unfolding handled
  stops_1 p q = rw (p, q)

  pub stops_2 : refusal0 x.association ≡ false → refusal1 (length x.buffer) ≡ false → refusal2 x.authentic ≡ true →
      refused 2 x.association ≡ handled_of x
  unfolding handled
  stops_2 p q r = rw (p, q, r)

  -- refusals 0, 1 and 2 are passed, and this was read
  pub record Read (r : Result Message Refusal) : Type 0 where
    pub sound : refusal0 x.association ≡ false
    pub room : refusal1 (length x.buffer) ≡ false
    pub marked : refusal2 x.authentic ≡ false
    pub read : r ≡ reading_of x.packet

  -- then the reading decides
  past_two : (h : Handled) (r : Result Message Refusal) → Read r → h ≡ handle_reading x.association x.packet r x.nonces → h ≡ handled_of x
  unfolding handled
  past_two h r f g = g ∙ rw (f.read, f.sound, f.room, f.marked)

  -- it is one of refusals 3 to 6, a Reply, a Move, or a Check
  module _ (r : Result Message Refusal) (f : Read r) where
    pub read_refused : (why : Refusal) → r ≡ Err why → declined why x.association ≡ handled_of x
    read_refused why e = past_two (declined why x.association) r f (rw e)

    pub read_reply : (echo : EchoResponse) → r ≡ Ok (Reply echo) → handle_reply x.association echo ≡ handled_of x
    read_reply echo e = past_two (handle_reply x.association echo) r f (rw e)

    -- what `handle` tries for itself is passed
    pub read_move : (m : MoveFields) (set : LocatorSet) → r ≡ Ok (Move m set) →
        guarded (length x.buffer) x.association (handle_move x.association m (listed_in set) x.nonces) ≡ handled_of x
    read_move m set e =
        let h = handle_move x.association m (listed_in set) x.nonces in
        lets_pass x.association h x.buffer (sound x.association f.sound).time f.room ∙ past_two h r f (rw e)

    -- what `respond` tries for itself is passed
    pub read_check : (c : CheckFields) (opaque : List ℕ) → r ≡ Ok (PeerCheck c) → opaque ≡ opaque_of x.packet c →
        roomy (length x.buffer) x.association (handle_check x.association c.id opaque) ≡ handled_of x
    read_check c opaque e g =
        let h = handle_check x.association c.id (opaque_of x.packet c) in
        rw f.room (ap (handle_check x.association c.id) g ∙ past_two h r f (rw e))
