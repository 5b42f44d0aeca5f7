-- Worked examples, computed from the definitions: the first buffer that is let pass.
use Rattle.std.specs.Prelude.{ℕ, ◌≡◌, refl, [], ◌∷◌, map}
use Rattle.association.specs.declared.Association.{Association}
use Rattle.update.specs.Messages.{Handled, refused}
use Rattle.respond.specs.Room.{roomy}

-- "reply buffer below 384 bytes"
room : (a : Association) (h : Handled) → map (λ (n : ℕ). roomy n a h) (0 ∷ 383 ∷ 384 ∷ []) ≡ refused 1 a ∷ refused 1 a ∷ h ∷ []
room a h = refl
