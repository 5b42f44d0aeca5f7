-- The slots before the one whose turn it is are renewed.
use Rattle.std.proofs.Common.{◌≡◌, ◌++◌, map, take, drop}
use Rattle.slot.specs.Found.{on_locator}
use Rattle.readdress.specs.Steps.{renew}
use Rattle.settle.proofs.renew_all.Given as goal

abbrev pub invariant-loop-slot : goal.invariant-loop-slot
invariant-loop-slot l = map (on_locator (renew l.time l.listed)) l.fn.slots ≡ take l.slot-index l.slots ++ map (on_locator (renew l.time l.listed)) (drop l.slot-index l.slots)
