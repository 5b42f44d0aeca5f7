-- An arrival and a send keep associations sound. Assumes nothing.
use Prim.Native.Nat.{ℕ, ◌-◌}
use native.Mathlib.Omega.{arith}
use Rattle.credit.specs.Credit.{credited}
use Rattle.association.proofs.Sound.{sound, Formed, Keeps, credit_formed, Leaves}
use Rattle.payload.specs.declared.SendAnswer.{SendAnswer}
use Rattle.payload.specs.Calls.{arrival_of, send_of}
use Rattle.payload.proofs.Ends.{arrival_ends, send_ends}

-- the same, of the answer to a send
abbrev LeavesSend : SendAnswer → Type 0
LeavesSend r = Formed r.association

pub arrival_keeps : (size : ℕ) → Keeps (λ a. (arrival_of a size).association)
arrival_keeps size a p = arrival_ends a size Leaves (λ n. p) (credit_formed a (credited a.credit size) p (omega arith))

pub send_keeps : (size : ℕ) → Keeps (λ a. (send_of a size).association)
send_keeps size a p =
    send_ends a size LeavesSend (λ n. p) (λ n e. p)
    (λ n e c. let s = sound a p.unrefused in let h = s.credit in credit_formed a (a.credit - size) p (omega arith))
