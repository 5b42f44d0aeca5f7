-- The association after a Move, from what steps 1 to 5 made. Assumes nothing.
use Prim.Native.Nat.{ℕ, ◌+◌}
use mathlib.Core.Path.{◌≡◌}
use mathlib.Core.Bool.{false}
use mathlib.Core.List.{List}
use Rattle.packet.specs.declared.MoveFields.{MoveFields}
use Rattle.locator.specs.declared.ListedLocator.{ListedLocator}
use Rattle.slot.specs.declared.Slot.{Slot}
use Rattle.readdress.specs.declared.Placement.{Placement}
use Rattle.readdress.specs.Moves.{new_preference}
use Rattle.checks.specs.Given.{given}
use Rattle.association.specs.declared.Association.{Association}
use Rattle.update.specs.Refusals.{refusal11}
use Rattle.update.specs.Messages.{placement, checks_of, new_outbound, new_peer, after_move}
use Rattle.std.specs.Prelude.{Option}

module _ (a : Association) (m : MoveFields) (set : List ListedLocator) where
  pub left_after : (nonces : List ℕ) (p : Placement) (k : ℕ) (ss : List Slot) (q : Option ℕ) → p ≡ placement a m set → k ≡ checks_of a m set →
      refusal11 a.next k ≡ false → ss ≡ given set a.time a.next nonces p.slots → q ≡ new_preference set p →
      record {
        outbound = new_outbound m;
        inbound = a.inbound;
        time = a.time;
        aged = a.aged;
        credit = a.credit;
        peer = new_peer m;
        next = a.next + k;
        preferred = q;
        slots = ss;
      } ≡ after_move a m set nonces
  unfolding after_move
  left_after nonces p k ss q e1 e2 h e3 e4 = rw (e4, e3, e1, ← e2, h)
