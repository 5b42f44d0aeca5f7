-- A parameter that is written takes the bytes that one takes in all. Assumes nothing.
use mathlib.Core.Path.{◌≡◌}
use mathlib.Core.List.{List}
use Prim.Native.Nat.{ℕ}
use lib.ListN.{length, length-append, length-replicate}
use native.Mathlib.Omega.{arith}
use Rattle.octets.proofs.Sizes.{bytes_length}
use Rattle.parameter.specs.Parameters.{takes}
use Rattle.parameter.specs.Written.{parameter_bytes}

pub parameter_length : (kind : ℕ) (body : List ℕ) → length (parameter_bytes kind body) ≡ takes (length body)
unfolding parameter_bytes
parameter_length kind body = simp (length-append, bytes_length, length-replicate) (omega arith)
