-- The entries from i on decide, after the addresses of those before.
use Rattle.std.proofs.Common.{◌≡◌, [], drop}
use Rattle.announcement.specs.Entries.{twice_in}
use Rattle.own_list.proofs.Judging.{earlier}
use Rattle.own_list.proofs.any_twice.Given as goal

abbrev pub invariant-loop-i : goal.invariant-loop-i
invariant-loop-i l = twice_in (earlier l.list l.i) (drop l.i l.list) ≡ twice_in [] l.list
