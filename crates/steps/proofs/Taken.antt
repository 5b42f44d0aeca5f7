-- Steps 1 to 5, as the code takes them, are the definition's. Assumes nothing.
use Prim.Native.Nat.{◌≤◌, ◌<◌}
use mathlib.Core.Path.{◌≡◌}
use mathlib.Core.List.{List}
use borrow.Author.Tests.{lt-ltb, le-leb, lt-leb}
use Rattle.credit.specs.Clock.{time_limit}
use Rattle.packet.specs.declared.MoveFields.{MoveFields}
use Rattle.locator.specs.declared.ListedLocator.{ListedLocator}
use Rattle.slot.specs.declared.Slot.{Slot}
use Rattle.readdress.specs.declared.Placement.{Placement}
use Rattle.readdress.specs.Echoes.{verify_all}
use Rattle.readdress.specs.Steps.{rebind, retire_all}
use Rattle.readdress.specs.Moves.{settled, placed}
use Rattle.settle.specs.Renewed.{renewed_at}
use Rattle.place.specs.Placing.{placed_at}
use Rattle.association.specs.declared.Association.{Association}
use Rattle.update.specs.Messages.{differs, placement}
use Rattle.steps.specs.Timely.{placement_at}

module _ (a : Association) (m : MoveFields) (set : List ListedLocator) where
  -- past the limit no step is taken
  pub none_taken : time_limit ≤ a.time → record { slots = a.slots; preferred = a.preferred } ≡ placement_at a m set
  none_taken h = rw (le-leb time_limit a.time h)

  -- below it the answer is the definition's
  pub timely : a.time < time_limit → placement_at a m set ≡ placement a m set
  timely h = rw (lt-leb time_limit a.time h)

  -- steps 1 to 5 one after the other; the time is below its limit
  pub steps_taken : (v b r t : List Slot) (p : Placement) → a.time < time_limit → v ≡ verify_all m.echo a.slots → b ≡ rebind (differs a m) v →
      r ≡ renewed_at a.time set b → t ≡ retire_all set r → p ≡ placed_at a.time set (record { slots = t; preferred = a.preferred }) →
      p ≡ placement_at a m set
  unfolding placed settled
  steps_taken v b r t p h e1 e2 e3 e4 e5 = rw (e5, e4, e3, e2, e1, timely h, lt-ltb a.time time_limit h)
