-- The slots before the one whose turn it is have a DEPRECATED locator or none.
use Rattle.std.proofs.Common.{◌≡◌, ◌++◌, map, take, drop}
use Rattle.slot.specs.Found.{on_locator}
use Rattle.readdress.specs.Steps.{deprecate}
use Rattle.settle.proofs.rebind.Given as goal

abbrev pub invariant-loop-slot : goal.invariant-loop-slot
invariant-loop-slot l = map (on_locator deprecate) l.fn.slots ≡ take l.slot-index l.slots ++ map (on_locator deprecate) (drop l.slot-index l.slots)
