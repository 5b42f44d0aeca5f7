-- How many bytes are written. Assumes nothing.
use mathlib.Core.Path.{◌≡◌, refl, ap}
use Prim.Native.Nat.{ℕ, zero, suc}
use lib.ListN.{length}
use Rattle.octets.specs.Written.{bytes_of}

pub bytes_length : (w number : ℕ) → length (bytes_of w number) ≡ w
unfolding bytes_of
bytes_length zero number = refl
bytes_length (suc w) number = ap suc (bytes_length w number)
