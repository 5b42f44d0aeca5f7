-- What holds of each way in which a tick can end holds of the answer. Assumes nothing.
use mathlib.Core.Path.{◌≡◌, refl, sym}
use mathlib.Core.Bool.{true, false}
use mathlib.Core.List.{List, []}
use Prim.Native.Nat.{ℕ}
use lib.ListN.{length}
use Rattle.boolean.proofs.Laws.{apart, cond_all}
use Rattle.credit.specs.Clock.{refusal12}
use Rattle.resend.specs.Resends.{refusal23}
use Rattle.association.specs.declared.Association.{Association}
use Rattle.association.specs.Form.{refusal0}
use Rattle.association.proofs.Answers.{is_refused}
use Rattle.clock.specs.Ticks.{Ticked, declined, passed, handled, buffer_after}

-- what a tick that is not refused is let pass by
pub record Passed (a : Association) (time room : ℕ) : Type 0 where
  pub sound : refusal0 a ≡ false
  pub wide : refusal23 room ≡ false
  pub timely : refusal12 a.time time ≡ false

module _ (P : Ticked → Type 0) (a : Association) (refusals : (n : ℕ) → P (declined n a)) (time room : ℕ) where
  pub tick_ends : (Passed a time room → P (passed a time)) → P (handled a time room)
  unfolding handled
  tick_ends done =
      cond_all P (refusal0 a) (declined 0 a) _ (λ q. refusals 0)
      (λ p0. cond_all P (refusal23 room) (declined 23 a) _ (λ q. refusals 23)
      (λ p1. cond_all P (refusal12 a.time time) (declined 12 a) (passed a time) (λ q. refusals 12)
      (λ p2. done (record { sound = p0; wide = p1; timely = p2 }))))

-- ---- a refusal leaves all as lent
abbrev AsLent : Association → Ticked → Type 0
AsLent a h = is_refused h.outcome ≡ true → (h.left ≡ a) × (h.bytes ≡ [])

module _ (a : Association) (time : ℕ) (buffer : List ℕ) where
  refused_as_lent : AsLent a (handled a time (length buffer))
  refused_as_lent = tick_ends (AsLent a) a (λ n e. (refl, refl)) time (length buffer) (λ p e. apart (sym e))

  pub refused_buffer : is_refused (handled a time (length buffer)).outcome ≡ true → buffer_after a time buffer ≡ buffer
  refused_buffer e = rw (refused_as_lent e).1
