-- The loop of `entries::are_entries`: those from entry k on are, so all are where those before it are.
use Rattle.std.proofs.Common.{◌≡◌}
use Rattle.entries.specs.Entries.{entry_count, are_entries}
use Rattle.entries.proofs.are_entries.Given as goal

abbrev pub invariant-loop-k : goal.invariant-loop-k
invariant-loop-k l = are_entries l.s l.found (entry_count l.found) ≡ are_entries l.s l.found l.k
