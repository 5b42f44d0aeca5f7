-- Each turn, by whether an entry before has the address.
use Rattle.own_list.proofs.Judging.{twice_found, twice_passed}
use Rattle.own_list.proofs.any_twice.Goals as goal

pub returns-then-is_held : goal.returns-then-is_held
returns-then-is_held c = twice_found _ _ _ _ c.loop-i-test.true c.loop-i.invariant c.is_held.ensures c.if-is_held.true

pub loop-i-preserved : goal.loop-i-preserved
loop-i-preserved c = twice_passed _ _ _ _ c.loop-i-test.true c.loop-i.invariant c.is_held.ensures c.if-is_held.false
