-- The entries before the one whose turn it is have their slots, and the others are still to be placed.
use Rattle.std.proofs.Common.{◌≡◌, drop}
use Rattle.readdress.specs.Steps.{place_all}
use Rattle.place.proofs.place_all.Given as goal

abbrev pub invariant-loop-entry : goal.invariant-loop-entry
invariant-loop-entry l = place_all l.time l.listed l.listed l.fn.p ≡ place_all l.time l.listed (drop l.entry-index l.listed) l.p
