-- The slots before the one whose turn it is have their checks, which took k nonces and own Update IDs; the others are still to be dealt theirs.
use Rattle.std.proofs.Common.{◌≡◌, ◌+◌, ◌++◌, ◌≤◌, length, take, drop}
use Rattle.readdress.specs.Checks.{check_count, checked}
use Rattle.checks.proofs.deal.Given as goal

abbrev pub invariant-loop-slot : goal.invariant-loop-slot
invariant-loop-slot l =
    (checked l.listed l.time l.next l.nonces 0 l.fn.slots ≡ take l.slot-index l.slots ++ checked l.listed l.time l.next l.nonces l.k (drop l.slot-index l.slots))
    × (l.k + check_count l.listed (drop l.slot-index l.slots) ≡ check_count l.listed l.fn.slots)
    × (l.k ≤ l.slot-index)
    × (length l.slots ≡ 8)
