-- Laws of bytes written at a place of a buffer. Assumes nothing.
use Prim.Native.Nat.{ℕ, ◌+◌, ◌≤◌, ◌<◌}
use mathlib.Core.Path.{◌≡◌, refl, sym, ap, ◌∙◌}
use mathlib.Core.Bool.{Bool, true, false, cond}
use mathlib.Core.List.{List, [], ◌∷◌, ◌++◌, append_assoc, append-nil}
use lib.Dec.{leb}
use lib.ListN.{length, take, drop, take-append-drop, length-append, length-take, length-drop}
use lib.Seq.{take_at, drop_at, drop-drop}
use borrow.Rule.Slice.PartMut.{put_mid}
use borrow.Author.Tests.{le-leb, lt-leb, leb-true}
use native.Mathlib.Omega.{arith}
use Rattle.octets.specs.Written.{joined}
use Rattle.writer.specs.Writes.{written_at}

-- bytes that fit stand between what is before and after them
pub written_within : (at : ℕ) (bytes buffer : List ℕ) → at + length bytes ≤ length buffer
    → written_at at bytes buffer ≡ take at buffer ++ (bytes ++ drop (at + length bytes) buffer)
unfolding written_at
written_within at bytes buffer h = rw (le-leb _ _ h)

-- the same, as a copy into the part leaves the buffer
pub written_part : (at size : ℕ) (bytes buffer : List ℕ) → size ≡ length bytes → at + length bytes ≤ length buffer
    → put_mid at size buffer bytes ≡ written_at at bytes buffer
written_part at size bytes buffer e h = rw (e, written_within at bytes buffer h, drop-drop (length bytes) at buffer)

-- bytes that do not fit are not written
pub written_beyond : (at : ℕ) (bytes buffer : List ℕ) → length buffer < at + length bytes → buffer ≡ written_at at bytes buffer
unfolding written_at
written_beyond at bytes buffer h = rw (lt-leb _ _ h)

-- the buffer is as long as it was
pub written_length : (at : ℕ) (bytes buffer : List ℕ) → length (written_at at bytes buffer) ≡ length buffer
unfolding written_at
written_length at bytes buffer = go (leb (at + length bytes) (length buffer)) refl
  where
    go : (b : Bool) → leb (at + length bytes) (length buffer) ≡ b
        → length (cond b (take at buffer ++ (bytes ++ drop (at + length bytes) buffer)) buffer) ≡ length buffer
    go true e = let h : at + length bytes ≤ length buffer = leb-true (at + length bytes) (length buffer) e in simp (length-append, length-take, length-drop) (omega arith)
    go false e = refl

-- no bytes change nothing
pub written_none : (at : ℕ) (buffer : List ℕ) → buffer ≡ written_at at [] buffer
unfolding written_at
written_none at buffer = go (leb (at + 0) (length buffer))
  where
    same : take at buffer ++ drop (at + 0) buffer ≡ buffer
    same = let e : at + 0 ≡ at = omega arith in rw e (take-append-drop at buffer)

    go : (b : Bool) → buffer ≡ cond b (take at buffer ++ drop (at + 0) buffer) buffer
    go true = sym same
    go false = refl

-- bytes, and then others right after them
pub written_then : (at next : ℕ) (x y buffer : List ℕ) → next ≡ at + length x → next + length y ≤ length buffer
    → written_at next y (written_at at x buffer) ≡ written_at at (x ++ y) buffer
written_then at next x y buffer e h =
    let before : List ℕ = take at buffer in
    let after : List ℕ = drop (at + length x) buffer in
    let room : at + length x ≤ length buffer = omega arith in
    let size : length (x ++ y) ≡ length x + length y = length-append x y in
    let rest : at + length x + length y ≡ at + length (x ++ y) = omega arith in
    let both : at + length (x ++ y) ≤ length buffer = omega arith in
    let seam : length (before ++ x) ≡ next = simp (length-append, length-take) (omega arith) in
    let inner : written_at at x buffer ≡ (before ++ x) ++ after = written_within at x buffer room ∙ sym (append_assoc before x after) in
    let fits : next + length y ≤ length ((before ++ x) ++ after) = rw (← inner, written_length at x buffer) h in
    let front : take next ((before ++ x) ++ after) ≡ before ++ x = take_at (before ++ x) after next seam in
    let back : drop (next + length y) ((before ++ x) ++ after) ≡ drop (at + length (x ++ y)) buffer =
    sym (drop-drop (length y) next ((before ++ x) ++ after))
    ∙ ap (λ (l : List ℕ). drop (length y) l) (drop_at (before ++ x) after next seam)
    ∙ drop-drop (length y) (at + length x) buffer
    ∙ ap (λ (n : ℕ). drop n buffer) rest in
    rw (inner, written_within next y ((before ++ x) ++ after) fits, front, back, written_within at (x ++ y) buffer both) (simp append_assoc)

-- the same of a buffer that was written to twice, as two calls leave it
pub written_more : (at next : ℕ) (x y buffer once twice : List ℕ) → next ≡ at + length x → next + length y ≤ length buffer
    → once ≡ written_at at x buffer → twice ≡ written_at next y once → twice ≡ written_at at (x ++ y) buffer
written_more at next x y buffer once twice e h p q = q ∙ ap (λ (s : List ℕ). written_at next y s) p ∙ written_then at next x y buffer e h

-- ---- parts one after another
-- a buffer after each is written right after the one before, the first of them k after a place
abbrev pub laid : (at k : ℕ) → (parts : List (List ℕ)) → (buffer : List ℕ) → List ℕ
laid at k [] buffer = buffer
laid at k (x ∷ parts) buffer = laid at (k + length x) parts (written_at (at + k) x buffer)

laid_after : (at k : ℕ) (done : List ℕ) (parts : List (List ℕ)) (buffer : List ℕ) → k ≡ length done → at + length (done ++ joined parts) ≤ length buffer
    → laid at k parts (written_at at done buffer) ≡ written_at at (done ++ joined parts) buffer
laid_after at k done [] buffer e h = ap (λ (s : List ℕ). written_at at s buffer) (sym (append-nil done))
laid_after at k done (x ∷ parts) buffer e h =
    let whole = append_assoc done x (joined parts) in
    let size = length-append done x in
    let most = length-append (done ++ x) (joined parts) in
    let room : at + length ((done ++ x) ++ joined parts) ≤ length buffer = rw whole h in
    ap (λ (s : List ℕ). laid at (k + length x) parts s) (written_then at (at + k) done x buffer (omega arith) (omega arith))
    ∙ laid_after at (k + length x) (done ++ x) parts buffer (omega arith) room
    ∙ ap (λ (s : List ℕ). written_at at s buffer) whole

-- they are written as a whole, where they all fit
pub parts_written : (at : ℕ) (x : List ℕ) (parts : List (List ℕ)) (bytes buffer after : List ℕ) → x ++ joined parts ≡ bytes
    → at + length bytes ≤ length buffer → after ≡ laid at (length x) parts (written_at at x buffer) → after ≡ written_at at bytes buffer
parts_written at x parts bytes buffer after e h p =
    p ∙ laid_after at (length x) x parts buffer refl (rw e h) ∙ ap (λ (s : List ℕ). written_at at s buffer) e

-- bytes written at the start
pub written_first : (bytes buffer : List ℕ) → length bytes ≤ length buffer → written_at 0 bytes buffer ≡ bytes ++ drop (length bytes) buffer
written_first bytes buffer h = let r : 0 + length bytes ≤ length buffer = omega arith in let z : 0 + length bytes ≡ length bytes = omega arith in rw (written_within 0 bytes buffer r, z)
