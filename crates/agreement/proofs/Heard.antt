-- A message that refusals 0 and 1 do not refuse and that is marked authentic is judged by what is read of it; an ID above the highest seen is neither refused
-- by 7 nor a repeat. Assumes nothing.
use Prim.Native.Nat.{ℕ}
use mathlib.Core.Path.{◌≡◌, refl}
use mathlib.Core.Bool.{true, false}
use mathlib.Core.List.{List}
use native.Mathlib.Omega.{arith}
use borrow.Author.Tests.{le-ltb, ne_eqb}
use Rattle.std.specs.Prelude.{None, Option, Some}
use Rattle.packet.specs.Readings.{reading_of}
use Rattle.association.specs.declared.Association.{Association}
use Rattle.update.specs.Refusals.{refusal7, repeats}
use Rattle.update.specs.Messages.{handle_reading, handled}
use Rattle.agreement.specs.Sent.{Listens, Below}

pub heard : (a : Association) (packet nonces : List ℕ) (room : ℕ) → Listens a room
    → handled a packet true nonces room ≡ handle_reading a packet (reading_of packet) nonces
unfolding handled
heard a packet nonces room h = rw (h.unrefused0, h.unrefused1)

pub below_passes : (peer : Option ℕ) (id : ℕ) → Below peer id → (refusal7 id peer ≡ false) × (repeats id peer ≡ false)
below_passes None id h = (refl, refl)
below_passes (Some highest) id h = (le-ltb id highest (omega arith), ne_eqb id highest (λ e. omega arith))
