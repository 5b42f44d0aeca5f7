-- `trace::nonces_in` meets its contract: each of its eight calls gives the number of its place.
use Rattle.std.proofs.Common.{rules}
use Rattle.entries.specs.Numbers.{number_of}
use Rattle.trace.proofs.Dealt.{dealt}
use Rattle.trace.proofs.nonces_in.Goals as goal

pub returns : goal.returns
returns c = dealt _ _ (number_of c.args.s.now c.args.nonces) (λ k y q called. search rules) c.from_fn.result 8 0 c.from_fn.ensures.items
