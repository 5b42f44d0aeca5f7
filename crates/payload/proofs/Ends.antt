-- How an arrival and a send end: a property of the answer holds where it holds of each refusal and of what is accepted. Assumes nothing.
use mathlib.Core.Path.{◌≡◌, refl}
use mathlib.Core.Bool.{true}
use Prim.Native.Nat.{ℕ, ◌-◌}
use Rattle.boolean.proofs.Laws.{cond_all}
use Rattle.path.specs.Choices.{path_of}
use Rattle.path.specs.declared.Path.{Path}
use Rattle.path.specs.declared.Path.TheVariants.{ToActive, ToUnverified, NoCarrier}
use Rattle.credit.specs.Credit.{refusal13, covers, credited}
use Rattle.association.specs.Form.{refusal0, with_credit, accepted, refused}
use Rattle.association.specs.declared.Association.{Association}
use Rattle.association.specs.declared.Answer.{Answer}
use Rattle.payload.specs.Calls.{arrival_of, send_of, send_to, granted, denied}
use Rattle.payload.specs.declared.SendAnswer.{SendAnswer}

module _ (a : Association) (size : ℕ) where
  pub arrival_ends : (P : Answer → Type 0) → ((n : ℕ) → P (refused n a)) → P (accepted (with_credit a (credited a.credit size))) → P (arrival_of a size)
  unfolding arrival_of
  arrival_ends P refusals done =
      cond_all P (refusal0 a) (refused 0 a) _ (λ e. refusals 0)
      (λ e. cond_all P (refusal13 size) (refused 13 a) (accepted (with_credit a (credited a.credit size))) (λ e. refusals 13) (λ e. done))

  -- granted to ACTIVE, or to UNVERIFIED by credit that covers it
  pub send_ends : (P : SendAnswer → Type 0) → ((n : ℕ) → P (denied n a))
      → ((n : ℕ) → path_of a.preferred a.slots ≡ ToActive n → P (granted n a))
      → ((n : ℕ) → path_of a.preferred a.slots ≡ ToUnverified n → covers a.credit size ≡ true → P (granted n (with_credit a (a.credit - size))))
      → P (send_of a size)
  unfolding send_of
  send_ends P refusals active unverified =
      cond_all P (refusal0 a) (denied 0 a) _ (λ e. refusals 0)
      (λ e. cond_all P (refusal13 size) (denied 13 a) (send_to a size (path_of a.preferred a.slots)) (λ e. refusals 13) (λ e. go (path_of a.preferred a.slots) refl))
    where
      go : (k : Path) → path_of a.preferred a.slots ≡ k → P (send_to a size k)
      go NoCarrier e = refusals 14
      go (ToActive n) e = active n e
      go (ToUnverified n) e = cond_all P (covers a.credit size) (granted n (with_credit a (a.credit - size))) (denied 15 a) (unverified n e) (λ q. refusals 15)
