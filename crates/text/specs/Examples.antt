-- Worked examples, computed from the definitions.
use Rattle.std.specs.Prelude.{ℕ, ◌≡◌, refl, [], ◌∷◌, map}
use Rattle.text.specs.Texts.{glyph_of, hex_of, digits_of, decimal_of, end_of}

-- both ends of `0` to `9` and of `a` to `f`
glyphs : map glyph_of (0 ∷ 1 ∷ 8 ∷ 9 ∷ 10 ∷ 11 ∷ 15 ∷ []) ≡ 48 ∷ 49 ∷ 56 ∷ 57 ∷ 97 ∷ 98 ∷ 102 ∷ []
glyphs = refl

-- 0, 7, 10, 8193 and 2^64 - 1 in decimal
decimals : map decimal_of (0 ∷ 7 ∷ 10 ∷ 8193 ∷ 18446744073709551615 ∷ [])
    ≡ (48 ∷ [])
    ∷ (55 ∷ [])
    ∷ (49 ∷ 48 ∷ [])
    ∷ (56 ∷ 49 ∷ 57 ∷ 51 ∷ [])
    ∷ (49 ∷ 56 ∷ 52 ∷ 52 ∷ 54 ∷ 55 ∷ 52 ∷ 52 ∷ 48 ∷ 55 ∷ 51 ∷ 55 ∷ 48 ∷ 57 ∷ 53 ∷ 53 ∷ 49 ∷ 54 ∷ 49 ∷ 53 ∷ [])
    ∷ []
unfolding digits_of decimal_of
decimals = refl

-- the bytes 0, 0x0f, 0xa9 and 0xff in hex: 000fa9ff
hex : hex_of (0 ∷ 15 ∷ 169 ∷ 255 ∷ []) ≡ 48 ∷ 48 ∷ 48 ∷ 102 ∷ 97 ∷ 57 ∷ 102 ∷ 102 ∷ []
unfolding hex_of
hex = refl

-- two bytes of text at each place of a buffer of three: at 0 and 1 they fit, and from 2 on they do not and the place stays
ends : map (λ (at : ℕ). end_of at (48 ∷ 49 ∷ []) (9 ∷ 9 ∷ 9 ∷ [])) (0 ∷ 1 ∷ 2 ∷ 3 ∷ 4 ∷ []) ≡ 2 ∷ 3 ∷ 2 ∷ 3 ∷ 4 ∷ []
unfolding end_of
ends = refl
