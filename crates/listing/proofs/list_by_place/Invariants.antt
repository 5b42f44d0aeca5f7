-- Past each parameter less of the packet is left. Assumes nothing.
use Rattle.std.proofs.Common.{◌-◌, length}
use Rattle.listing.proofs.list_by_place.Given as goal

abbrev pub decreases-loop-p : goal.decreases-loop-p
decreases-loop-p g l = length l.packet - l.cursor.at
