-- Worked examples, computed from the definitions.
use Rattle.std.specs.Prelude.{ℕ, ◌+◌, ◌≡◌, refl, true, false, List, [], ◌∷◌, ◌++◌, map, replicate}
use Rattle.std.specs.Borrow.{Bor}
use Rattle.octets.specs.ExamplesHex.{hex}
use Rattle.octets.specs.Records.{records}
use Rattle.parameter.specs.Types.{refused_type, wrong_length}
use Rattle.frame.specs.Parameters.{falls}
use Rattle.frame.specs.Survey.{occurs}
use Rattle.echo.specs.declared.Place.{Place}
use Rattle.echo.specs.Parts.{same_bytes, echoes, place_of, Part}

-- two nonces
abbrev first : List ℕ
first = hex "01020304 05060708"

abbrev second : List ℕ
second = hex "09090909 09090909"

-- a packet of these parameters, by its header's length
abbrev packet : (h : ℕ) → List ℕ → List ℕ
packet h parameters = 59 ∷ h ∷ 16 ∷ 0x21 ∷ replicate 36 0 ++ parameters

-- two echo responses of 8 bytes: refusal 5 does not matter to the log
abbrev both : List ℕ
both = hex "03c10008 01020304 05060708 00000000" ++ hex "03c10008 09090909 09090909 00000000"

-- the part that echoes a nonce, and the empty part at the end of so many bytes
abbrev found : Place
found = record { start = 44; len = 8 }

abbrev end : (size : ℕ) → Place
end size = record { start = size; len = 0 }

-- two lists of bytes
same : (map (same_bytes (1 ∷ 2 ∷ [])) ((1 ∷ 2 ∷ []) ∷ (1 ∷ 1 ∷ []) ∷ (1 ∷ 3 ∷ []) ∷ (0 ∷ 2 ∷ []) ∷ (2 ∷ 2 ∷ []) ∷ (1 ∷ []) ∷ (1 ∷ 2 ∷ 3 ∷ []) ∷ [] ∷ [])
    ≡ true ∷ replicate 7 false)
    × (map (same_bytes []) ([] ∷ (0 ∷ []) ∷ []) ≡ true ∷ false ∷ [])
same = (refl, refl)

-- the only echo response and the first of two are found at their place; the second is not, though it is equal
places : (place_of (packet 6 (hex "03c10008 01020304 05060708 00000000")) first ≡ found)
    × (place_of (packet 8 both) first ≡ found)
    × (place_of (packet 8 both) second ≡ end 72)
unfolding records refused_type wrong_length falls occurs echoes place_of
places = (refl, refl, refl)

-- "if the nonce is not eight bytes long": 0, 7, 9 and 16 bytes, which stand where the echo response does, also where it has that length
lengths : (map (place_of (packet 8 both)) ([] ∷ hex "01020304 050607" ∷ hex "01020304 05060708 00" ∷ hex "01020304 05060708 00000000 03c10008" ∷ [])
    ≡ replicate 4 (end 72))
    × (place_of (packet 6 (hex "03c10007 01020304 05060700 00000000")) (hex "01020304 050607") ≡ end 56)
    × (place_of (packet 6 (hex "03c10009 01020304 05060708 09000000")) (hex "01020304 05060708 09") ≡ end 56)
    × (place_of (packet 7 (hex "03c10010 01020304 05060708 09090909 09090909 00000000")) (first ++ second) ≡ end 64)
unfolding records refused_type wrong_length falls occurs echoes place_of
lengths = (refl, refl, refl, refl)

-- "the packet earns refusal 3": by its header, and by a type that falls after the echo response
refused : (place_of (packet 9 both) first ≡ end 72)
    × (place_of (packet 7 (hex "03c10008 01020304 05060708 00000000 01c10004 00000007")) first ≡ end 64)
unfolding records refused_type wrong_length falls occurs echoes place_of
refused = (refl, refl)

-- "it has no echo response": no parameter at all, and an echo request in its place
without : (place_of (packet 4 []) first ≡ end 40) × (place_of (packet 6 (hex "03810008 01020304 05060708 00000000")) first ≡ end 56)
unfolding records refused_type wrong_length falls occurs echoes place_of
without = (refl, refl)

-- "or the first one is not those eight bytes": it is longer, though it begins with the nonce; it is shorter, though the padding ends as the nonce
-- does; its last byte is another
unequal : (map (λ (s : List ℕ). place_of (packet 6 s) first)
    (hex "03c10009 01020304 05060708 00000000" ∷ hex "03c10007 01020304 05060708 00000000" ∷ hex "03c10008 01020304 05060709 00000000" ∷ [])
    ≡ replicate 3 (end 56))
    × (place_of (packet 7 (hex "03c10010 01020304 05060708 01020304 05060708 00000000")) first ≡ end 64)
unfolding records refused_type wrong_length falls occurs echoes place_of
unequal = (refl, refl)

-- a reference to where p points, with these bytes there
abbrev holding : Bor (List ℕ) → List ℕ → Bor (List ℕ)
holding p bytes = record { ref_ptr = p.ref_ptr; now = bytes }

-- "the packet's own part": whatever memory holds the packet, the part points into it, 44 bytes on, and holds the eight bytes
own_part : (p r : Bor (List ℕ)) → Part (holding p (packet 8 both)) found r → (r.now ≡ first) × (r.ref_ptr.0 ≡ p.ref_ptr.0) × (r.ref_ptr.1 ≡ p.ref_ptr.1 + 44)
own_part p r part = (part.bytes, part.memory, part.offset)
