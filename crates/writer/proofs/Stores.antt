-- Stores of bytes one after another, as the functions make them. Assumes nothing.
use Prim.Native.Nat.{ℕ, suc, ◌+◌, ◌≤◌}
use mathlib.Core.Path.{◌≡◌, refl, sym, ap, ◌∙◌}
use mathlib.Core.List.{List, [], ◌∷◌, append_assoc}
use lib.ListN.{length, set, take, drop}
use lib.Seq.{sets, sets-eq}
use native.Mathlib.Omega.{arith}
use Rattle.writer.specs.Writes.{written_at}
use Rattle.writer.proofs.Writes.{written_within}

-- a buffer after bytes are stored one after another, the first of them k after a place
abbrev pub stores : (at k : ℕ) → (bytes buffer : List ℕ) → List ℕ
stores at k [] buffer = buffer
stores at k (x ∷ bytes) buffer = stores at (k + 1) bytes (set buffer (at + k) x)

stores_sets : (at k : ℕ) (bytes buffer : List ℕ) → stores at k bytes buffer ≡ sets buffer (at + k) bytes
stores_sets at k [] buffer = refl
stores_sets at k (x ∷ bytes) buffer =
    let e : at + (k + 1) ≡ suc (at + k) = omega arith in
    stores_sets at (k + 1) bytes (set buffer (at + k) x) ∙ ap (λ (i : ℕ). sets (set buffer (at + k) x) i bytes) e

-- bytes, stored from a place on, where they fit
pub stored : (at x : ℕ) (rest bytes buffer : List ℕ) → x ∷ rest ≡ bytes → at + length bytes ≤ length buffer
    → stores at 1 rest (set buffer at x) ≡ written_at at bytes buffer
stored at x rest bytes buffer e h =
    let next : at + 1 ≡ suc at = omega arith in
    let room : at + suc (length rest) ≤ length buffer = rw (ap length e) h in
    stores_sets at 1 rest (set buffer at x)
    ∙ ap (λ (i : ℕ). sets (set buffer at x) i rest) next
    ∙ sets-eq (x ∷ rest) buffer at room
    ∙ append_assoc (take at buffer) (x ∷ rest) (drop (at + suc (length rest)) buffer)
    ∙ sym (written_within at (x ∷ rest) buffer room)
    ∙ ap (λ (s : List ℕ). written_at at s buffer) e
