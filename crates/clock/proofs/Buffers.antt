-- The buffer of a tick: the checks that are sent again fit in it, so that the buffer stays as long as it was. Assumes nothing.
use mathlib.Core.Path.{◌≡◌}
use mathlib.Core.List.{List}
use Prim.Native.Nat.{ℕ, ◌≤◌}
use lib.ListN.{length, length-map}
use native.Mathlib.Omega.{arith}
use borrow.Author.Tests.{ltb-false}
use Rattle.slot.specs.Found.{slot_count}
use Rattle.slot.specs.Expiry.{expire_slot}
use Rattle.slots.specs.Rules.{expire_all}
use Rattle.reply_form.proofs.Sizes.{overwritten_length}
use Rattle.resend.specs.Resends.{tick_room}
use Rattle.resend.proofs.Written.{resent_most}
use Rattle.association.specs.declared.Association.{Association}
use Rattle.clock.specs.Ticks.{Ticked, handled, buffer_after}
use Rattle.clock.proofs.Ends.{tick_ends}

module _ (a : Association) (whole : length a.slots ≡ slot_count) (time : ℕ) where
  -- "Tick now needs a 320-byte buffer": eight checks of 40 bytes fit in it
  pub resends_fit : (room : ℕ) → length (handled a time room).bytes ≤ room
  resends_fit room =
      tick_ends (λ (h : Ticked). length h.bytes ≤ room) a (λ n. omega arith) time room
      (λ p.
      omega (arith, resent_most a.inbound time (expire_all time a.slots), length-map a.slots (expire_slot time), whole, ltb-false room tick_room p.wide))

  pub buffer_length : (buffer : List ℕ) → length (buffer_after a time buffer) ≡ length buffer
  buffer_length buffer = overwritten_length (handled a time (length buffer)).bytes buffer (resends_fit (length buffer))
