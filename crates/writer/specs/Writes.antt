-- Bytes written at a place of a buffer.
use Rattle.std.specs.Prelude.{ℕ, ◌+◌, cond, List, ◌++◌, leb, length, take, drop}

-- a buffer after these bytes are written at a place of it; where they do not all fit, nothing is written
unfoldable pub written_at : (at : ℕ) → (bytes buffer : List ℕ) → List ℕ
written_at at bytes buffer =
    cond (leb (at + length bytes) (length buffer)) (take at buffer ++ (bytes ++ drop (at + length bytes) buffer)) buffer
