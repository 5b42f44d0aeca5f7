-- What a Move writes: the ACK alone, or its checks. Assumes nothing.
use Prim.Native.Nat.{ℕ, zero, suc, ◌<◌}
use mathlib.Core.Path.{◌≡◌, refl}
use mathlib.Core.List.{List}
use native.Mathlib.Omega.{arith}
use Rattle.reply_form.specs.Replies.{ack_bytes, checks_bytes, move_bytes}

module _ (inbound peer next : ℕ) (nonces : List ℕ) where
  pub move_ack : (checks : ℕ) → checks ≡ 0 → move_bytes inbound peer next nonces checks ≡ ack_bytes peer
  unfolding move_bytes
  move_ack checks e = rw e

  pub move_checks : (checks : ℕ) → 0 < checks → move_bytes inbound peer next nonces checks ≡ checks_bytes inbound peer next nonces 0 checks
  unfolding move_bytes
  move_checks zero h = absurd (omega arith)
  move_checks (suc checks) h = refl
