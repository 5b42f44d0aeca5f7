-- What an answer of the walk says of the packet: a caller cites these. Assumes nothing.
use mathlib.Core.Path.{◌≡◌, refl, sym, ◌∙◌}
use mathlib.Core.Bool.{Bool, true, false, cond}
use mathlib.Core.List.{List}
use Prim.Native.Nat.{ℕ}
use Rattle.std.specs.Prelude.{Result, Ok, Err}
use Rattle.refusal.specs.declared.Refusal.{Refusal}
use Rattle.refusal.specs.Table.{refusal}
use Rattle.frame.specs.declared.Survey.{Survey}
use Rattle.frame.specs.Survey.{survey_of, refusal3, walk_of}

rejected : (b : Bool) (z : Survey) {r : Refusal} → cond b (Err (refusal 3)) (Ok z) ≡ Err r → (b ≡ true) × (r ≡ refusal 3)
rejected true z e = (refl, cc)
rejected false z e = (cc, cc)

complete : (b : Bool) (z : Survey) {y : Survey} → cond b (Err (refusal 3)) (Ok z) ≡ Ok y → (b ≡ false) × (y ≡ z)
complete true z e = (cc, cc)
complete false z e = (refl, cc)

module _ (s : List ℕ) {w : Result Survey Refusal} (g : w ≡ walk_of s) where
  pub walk_rejected : {r : Refusal} → w ≡ Err r → (refusal3 s ≡ true) × (r ≡ refusal 3)
  unfolding walk_of
  walk_rejected e = rejected (refusal3 s) (survey_of s) (sym g ∙ e)

  pub walk_complete : {z : Survey} → w ≡ Ok z → (refusal3 s ≡ false) × (z ≡ survey_of s)
  unfolding walk_of
  walk_complete e = complete (refusal3 s) (survey_of s) (sym g ∙ e)
