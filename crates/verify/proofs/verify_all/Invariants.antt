-- The slots before the one whose turn it is are verified.
use Rattle.std.proofs.Common.{◌≡◌, ◌++◌, map, take, drop}
use Rattle.slot.specs.Found.{on_locator}
use Rattle.readdress.specs.Echoes.{verify_locator}
use Rattle.verify.proofs.verify_all.Given as goal

abbrev pub invariant-loop-slot : goal.invariant-loop-slot
invariant-loop-slot l = map (on_locator (verify_locator l.echo)) l.fn.slots ≡ take l.slot-index l.slots ++ map (on_locator (verify_locator l.echo)) (drop l.slot-index l.slots)
