-- Each turn leaves one nonce fewer.
use Rattle.std.proofs.Common.{length}
use Rattle.checks.proofs.+any_twice.Given as goal

abbrev pub decreases-any_twice : goal.decreases-any_twice
decreases-any_twice l = length l.nonces.now
