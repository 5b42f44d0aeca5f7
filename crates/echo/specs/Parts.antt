-- For the log: of a packet and a nonce, "the packet's own part that holds the echo, its eight opaque bytes".
use Rattle.std.specs.Prelude.{ℕ, ◌+◌, ◌≡◌, Bool, not, cond, ◌&&◌, List, eqb, length, take, drop}
use Rattle.std.specs.Cmp.Lexicographic.{pointwise}
use Rattle.std.specs.Borrow.{Bor}
use Rattle.parameter.specs.Types.{nonce_size}
use Rattle.frame.specs.Survey.{survey_of, refusal3}
use Rattle.frame.specs.declared.Occurrence.{Occurrence}
use Rattle.echo.specs.declared.Place.{Place}

-- two lists hold the same bytes
abbrev pub same_bytes : List ℕ → List ℕ → Bool
same_bytes = pointwise eqb

-- the bytes of s at a place
abbrev pub part_at : List ℕ → (start len : ℕ) → List ℕ
part_at s start len = take len (drop start s)

-- there is an echo response, and the first one is those eight bytes
unfoldable pub echoes : List ℕ → Occurrence → List ℕ → Bool
echoes s echo nonce =
    not (eqb echo.times 0) && (eqb echo.len nonce_size && same_bytes (part_at s echo.body nonce_size) nonce)

-- the empty part at the packet's end
abbrev pub at_end : List ℕ → Place
at_end s = record { start = length s; len = 0 }

-- "The part is empty, at the packet's end, if the nonce is not eight bytes long, the packet earns refusal 3, it has no echo response, or the
-- first one is not those eight bytes."
unfoldable pub place_of : List ℕ → List ℕ → Place
place_of s nonce =
    cond (eqb (length nonce) nonce_size && (not (refusal3 s) && echoes s (survey_of s).echo nonce))
    (record { start = (survey_of s).echo.body; len = nonce_size })
    (at_end s)

-- r is the packet's own part at a place: it points into the packet's memory, at that place, and holds the bytes there
pub record Part (packet : Bor (List ℕ)) (place : Place) (r : Bor (List ℕ)) : Type 0 where
  pub memory : r.ref_ptr.0 ≡ packet.ref_ptr.0
  pub offset : r.ref_ptr.1 ≡ packet.ref_ptr.1 + place.start
  pub bytes : r.now ≡ part_at packet.now place.start place.len
