-- What the private functions of this crate require.
use Rattle.std.specs.Prelude.{ℕ, ◌+◌, ◌≤◌, List, length}
use Rattle.frame.specs.declared.Survey.{Survey}

-- the parts of a packet that are read as a Move's lie within it
pub record Parts (s : List ℕ) (seen : Survey) : Type 0 where
  pub esp : seen.esp.body ≤ length s
  pub set : seen.set.body + seen.set.len ≤ length s
