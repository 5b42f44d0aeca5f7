-- What a message leaves as it was: the clock and the credit always, and where it is refused the association and every byte of the buffer. Assumes nothing.
use mathlib.Core.Path.{◌≡◌, refl, sym, ◌∙◌}
use mathlib.Core.Bool.{Bool, true, false}
use mathlib.Core.List.{List, []}
use Prim.Native.Nat.{ℕ}
use lib.ListN.{length}
use Rattle.boolean.proofs.Laws.{apart}
use Rattle.packet.specs.declared.Message.{Message}
use Rattle.packet.specs.declared.Message.TheVariants.{Move, Reply, PeerCheck}
use Rattle.packet.specs.Readings.{reading_of, opaque_of}
use Rattle.locator_set.specs.Sets.{listed_in}
use Rattle.association.specs.declared.Association.{Association}
use Rattle.update.specs.Messages.{Handled, after_move, handle_message, handle_reading, handled, buffer_after}
use Rattle.update.proofs.Cases.{reply_ends, move_ends, check_ends, message_ends}
use Rattle.std.specs.Prelude.{Err, Ok, Result}
use Rattle.refusal.specs.declared.Refusal.{Refusal}
use Rattle.update.specs.declared.Received.{Received}
use Rattle.update.specs.declared.Received.TheVariants.{Moved, Repeated, Replied, Responded}

abbrev pub is_declined : Result Received Refusal → Bool
is_declined (Ok Moved) = false
is_declined (Ok Replied) = false
is_declined (Ok Responded) = false
is_declined (Ok Repeated) = false
is_declined (Err why) = true

pub record Untouched (a : Association) (h : Handled) : Type 0 where
  pub aged : a.aged ≡ h.left.aged
  pub credit : a.credit ≡ h.left.credit
  -- "A refusal returns its number and zero reply bytes; association and buffer are as lent."
  pub association : is_declined h.outcome ≡ true → h.left ≡ a
  pub reply : is_declined h.outcome ≡ true → h.reply ≡ []

refused_untouched : (a : Association) (h : Handled) → h.left ≡ a → h.reply ≡ [] → Untouched a h
refused_untouched a h p q = record { aged = rw p; credit = rw p; association = λ d. p; reply = λ d. q }

-- where it is not refused, the clock and the credit are all
accepted_untouched : (a : Association) (h : Handled) → is_declined h.outcome ≡ false → a.aged ≡ h.left.aged → a.credit ≡ h.left.credit → Untouched a h
accepted_untouched a h n p q = record { aged = p; credit = q; association = λ d. apart (sym d ∙ n); reply = λ d. apart (sym d ∙ n) }

message_untouched : (a : Association) (packet : List ℕ) (g : Message) (nonces : List ℕ) →
    Untouched a (handle_message a packet g nonces)
unfolding after_move
message_untouched a packet (Reply e) nonces = reply_ends (Untouched a) a (λ n. refused_untouched a _ refl refl) e (accepted_untouched a _ refl refl refl)
message_untouched a packet (PeerCheck c) nonces =
    check_ends (Untouched a) a (λ n. refused_untouched a _ refl refl) c.id (opaque_of packet c) (λ q. accepted_untouched a _ refl refl refl)
    (λ q. accepted_untouched a _ refl refl refl)
message_untouched a packet (Move m s) nonces =
    move_ends (Untouched a) a (λ n. refused_untouched a _ refl refl) m (listed_in s) nonces (accepted_untouched a _ refl refl refl)
    (λ q r. accepted_untouched a _ refl refl refl)

pub reading_untouched : (a : Association) (packet : List ℕ) (r : Result Message Refusal) (nonces : List ℕ) → Untouched a (handle_reading a packet r nonces)
reading_untouched a packet (Err why) nonces = refused_untouched a _ refl refl
reading_untouched a packet (Ok g) nonces = message_untouched a packet g nonces

module _ (a : Association) (packet : List ℕ) (authentic : Bool) (nonces buffer : List ℕ) where
  untouched : Untouched a (handled a packet authentic nonces (length buffer))
  untouched =
      message_ends (Untouched a) a (λ n. refused_untouched a _ refl refl) packet authentic nonces (length buffer)
      (λ p q r. reading_untouched a packet (reading_of packet) nonces)

  pub declined_association : is_declined (handled a packet authentic nonces (length buffer)).outcome ≡ true → (handled a packet authentic nonces (length buffer)).left ≡ a
  declined_association d = untouched.association d

  pub declined_buffer : is_declined (handled a packet authentic nonces (length buffer)).outcome ≡ true → buffer_after a packet authentic nonces buffer ≡ buffer
  declined_buffer d = rw (untouched.reply d)
