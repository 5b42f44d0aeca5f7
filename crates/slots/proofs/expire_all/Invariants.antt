-- The slots before the one whose turn it is have expired.
use Rattle.std.proofs.Common.{◌≡◌, ◌++◌, map, take, drop}
use Rattle.slot.specs.Expiry.{expire_slot}
use Rattle.slots.proofs.expire_all.Given as goal

abbrev pub invariant-loop-slot : goal.invariant-loop-slot
invariant-loop-slot l = map (expire_slot l.time) l.fn.slots ≡ take l.slot-index l.slots ++ map (expire_slot l.time) (drop l.slot-index l.slots)
