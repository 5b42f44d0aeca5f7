-- Worked examples, computed from the definitions.
use Rattle.std.specs.Prelude.{ℕ, ◌≡◌, refl, [], ◌∷◌, map}
use Rattle.octets.specs.ExamplesHex.{hex}
use Rattle.writer.specs.Writes.{written_at}

-- two bytes at each place of a buffer of four: the bytes before and after them are as they were, and where they do not all fit nothing is written
places : map (λ (at : ℕ). written_at at (hex "0102") (hex "a6a7a8a9")) (0 ∷ 1 ∷ 2 ∷ 3 ∷ 4 ∷ 5 ∷ [])
    ≡ hex "0102a8a9" ∷ hex "a60102a9" ∷ hex "a6a70102" ∷ hex "a6a7a8a9" ∷ hex "a6a7a8a9" ∷ hex "a6a7a8a9" ∷ []
unfolding written_at
places = refl

-- no bytes, at the end and past it
none : (written_at 2 [] (hex "a6a7") ≡ hex "a6a7") × (written_at 3 [] (hex "a6a7") ≡ hex "a6a7")
unfolding written_at
none = (refl, refl)
