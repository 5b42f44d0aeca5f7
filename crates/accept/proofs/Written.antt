-- An answer with a reply: where there is room for it, it is written whole. Assumes nothing.
use Prim.Native.Nat.{ℕ, ◌≤◌, ◌<◌}
use mathlib.Core.Path.{◌≡◌, refl, ap, ◌∙◌}
use mathlib.Core.Bool.{true, false}
use mathlib.Core.List.{List}
use lib.ListN.{length}
use borrow.Author.Tests.{le-leb, lt-leb}
use Rattle.credit.specs.Clock.{time_limit}
use Rattle.reply_form.specs.Replies.{fitted, overwritten}
use Rattle.reply_form.proofs.Fitted.{fitted_whole}
use Rattle.association.specs.declared.Association.{Association}
use Rattle.update.specs.Refusals.{refusal1}
use Rattle.update.specs.declared.MessageAnswer.{MessageAnswer}
use Rattle.update.specs.Messages.{Handled, refused, answer_of}
use Rattle.accept.specs.Room.{guarded}

-- what a function that answers a message owes: the answer, and the buffer after it
abbrev pub Answers : Handled → (buffer : List ℕ) → MessageAnswer → (after : List ℕ) → Type 0
Answers h buffer r after = (r ≡ answer_of h) × (after ≡ overwritten h.reply buffer)

-- ---- past the time limit, in a short buffer, and otherwise
module _ (a : Association) (h : Handled) (b : List ℕ) where
  pub late_refused : (r : MessageAnswer) → time_limit ≤ a.time → r ≡ answer_of (refused 0 a) → Answers (guarded (length b) a h) b r b
  late_refused r l e = rw (le-leb time_limit a.time l) (e, refl)

  pub short_refused : (r : MessageAnswer) → a.time < time_limit → refusal1 (length b) ≡ true → r ≡ answer_of (refused 1 a) → Answers (guarded (length b) a h) b r b
  short_refused r l p e = rw (lt-leb time_limit a.time l, p) (e, refl)

  pub lets_pass : a.time < time_limit → refusal1 (length b) ≡ false → guarded (length b) a h ≡ h
  lets_pass l p = rw (lt-leb time_limit a.time l, p)

  pub answers_so : (r : MessageAnswer) (after : List ℕ) → a.time < time_limit → refusal1 (length b) ≡ false → Answers h b r after → Answers (guarded (length b) a h) b r after
  answers_so r after l p e = rw (lets_pass l p) e

-- ---- a reply that fits is written whole
pub written_whole : (reply b after : List ℕ) (n : ℕ) → length reply ≤ length b → n ≡ length (fitted (length b) reply) →
    after ≡ overwritten (fitted (length b) reply) b → (n ≡ length reply) × (after ≡ overwritten reply b)
written_whole reply b after n h e f = (e ∙ ap length (fitted_whole (length b) reply h), f ∙ ap (λ (r : List ℕ). overwritten r b) (fitted_whole (length b) reply h))
