-- The calls from the index on are still to be made. Assumes nothing.
use Rattle.std.proofs.Common.{◌≡◌, drop}
use Rattle.exported.specs.Calls.{run_of, calls_run}
use Rattle.exported.proofs.nisgrove_calls.Given as goal

abbrev pub invariant-loop-call : goal.invariant-loop-call
invariant-loop-call l =
    calls_run l.calls l.first l.second l.initial.buffer
    ≡ run_of l.first l.second (record { association = l.a; buffer = l.buffer; number = l.h }) (drop l.call-index l.calls)
