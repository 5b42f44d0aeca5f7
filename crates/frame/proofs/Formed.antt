-- Refusal 3 by the parameters, one after another. Assumes nothing.
use mathlib.Core.Path.{◌≡◌, refl}
use mathlib.Core.Bool.{Bool, true, false, ◌||◌, or-true}
use mathlib.Core.List.{List, ◌∷◌}
use Prim.Native.Nat.{ℕ}
use Rattle.std.specs.List.{list_any}
use Rattle.parameter.specs.declared.Parameter.{Parameter}
use Rattle.parameter.specs.Parameters.{past_end, wrong}
use Rattle.frame.specs.Parameters.{falls_below, falls, ill_formed, ill_after}

-- three tests of the first and of the others, test by test, are the tests of the first and then those of the others
regroup : (a b f a' b' f' : Bool) → ((a || a') || ((f || f') || (b || b'))) ≡ (((a || b) || f) || (a' || (f' || b')))
regroup true b f a' b' f' = refl
regroup false true f a' b' f' = simp or-true
regroup false false true a' b' f' = simp or-true
regroup false false false a' b' f' = refl

-- the first of them, or the others after it
pub ill_first : (s : List ℕ) (last : ℕ) (p : Parameter) (ps : List Parameter) → ill_formed s last (p ∷ ps) ≡ (ill_after s last p || ill_formed s p.kind ps)
unfolding falls
ill_first s last p ps = regroup (past_end s p) (wrong p) (falls_below last p) (list_any (past_end s) ps) (list_any wrong ps) (falls p.kind ps)
