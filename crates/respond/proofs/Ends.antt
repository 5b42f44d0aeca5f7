-- How a Check ends: the answer and the buffer, from the tests that led to it. Assumes nothing.
use Prim.Native.Nat.{ℕ, ◌≤◌}
use mathlib.Core.Path.{◌≡◌, refl, ap, ◌∙◌}
use mathlib.Core.Bool.{true, false}
use mathlib.Core.List.{List}
use lib.ListN.{length}
use borrow.Author.Tests.{ltb-false}
use Rattle.reply_form.specs.Replies.{overwritten}
use Rattle.association.specs.declared.Association.{Association}
use Rattle.update.specs.Refusals.{reply_room, opaque_limit, refusal1, refusal7, repeats, refusal22}
use Rattle.update.specs.declared.MessageAnswer.{MessageAnswer}
use Rattle.update.specs.Messages.{Handled, refused, responded, repeated_check, handle_check, answer_of}
use Rattle.respond.specs.Room.{roomy}

-- what the tests that are passed say
pub room_enough : (room : ℕ) → refusal1 room ≡ false → reply_room ≤ room
room_enough room p = ltb-false room reply_room p

pub opaque_few : (opaque : List ℕ) → refusal22 opaque ≡ false → length opaque ≤ opaque_limit
opaque_few opaque p = ltb-false opaque_limit (length opaque) p

module _ (a : Association) (id : ℕ) (opaque b : List ℕ) where
  -- the definition's answer
  abbrev pub ends : Handled
  ends = roomy (length b) a (handle_check a id opaque)

  -- the answer and the buffer afterwards are the definition's
  abbrev pub Answers : MessageAnswer → (after : List ℕ) → Type 0
  Answers r after = (r ≡ answer_of ends) × (after ≡ overwritten ends.reply b)

  -- the call ends so
  pub answers_so : (r : MessageAnswer) (after : List ℕ) (h : Handled) → r ≡ answer_of h → after ≡ overwritten h.reply b → h ≡ ends → Answers r after
  answers_so r after h e f g = (e ∙ ap answer_of g, f ∙ ap (λ (k : Handled). overwritten k.reply b) g)

  -- a refusal ends so: nothing is written
  pub refuses_so : (r : MessageAnswer) (number : ℕ) → r ≡ answer_of (refused number a) → refused number a ≡ ends → Answers r b
  refuses_so r number e g = answers_so r b (refused number a) e refl g

  pub stops_1 : refusal1 (length b) ≡ true → refused 1 a ≡ ends
  stops_1 p = rw p

  module _ (p : refusal1 (length b) ≡ false) where
    pub stops_22 : refusal22 opaque ≡ true → refused 22 a ≡ ends
    unfolding handle_check
    stops_22 q = rw (p, q)

    module _ (q : refusal22 opaque ≡ false) where
      pub stops_7 : refusal7 id a.peer ≡ true → refused 7 a ≡ ends
      unfolding handle_check
      stops_7 r = rw (p, q, r)

      pub passes_repeated : refusal7 id a.peer ≡ false → repeats id a.peer ≡ true → repeated_check a id opaque ≡ ends
      unfolding handle_check
      passes_repeated r t = rw (p, q, r, t)

      pub passes : refusal7 id a.peer ≡ false → repeats id a.peer ≡ false → responded a id opaque ≡ ends
      unfolding handle_check
      passes r t = rw (p, q, r, t)
