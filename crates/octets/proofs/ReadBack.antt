-- A number that is written is read back, and bytes that are read are written back: over the width. Assumes nothing.
use Prim.Native.Nat.{ℕ, zero, suc, ◌+◌, ◌*◌, ◌/◌, ◌%◌, ◌^◌, ◌<◌, ◌≤◌}
use mathlib.Core.Path.{◌≡◌, refl, sym, ap, ◌∙◌}
use mathlib.Core.List.{List, [], ◌∷◌, ◌++◌, append_assoc}
use native.Mathlib.Omega.{arith}
use native.Mathlib.Nat.{div-div-eq-div-mul, pow-succ'}
use lib.ListN.{length, get_or, take, drop, length-append, length-drop}
use lib.Seq.{get_or-append-add, get_or-append_seam, take-suc, get_or-drop}
use Rattle.octets.specs.Numbers.{big_endian, number_at}
use Rattle.octets.specs.Written.{bytes_of, Octets}
use Rattle.octets.proofs.Fields.{number_within}
use Rattle.octets.proofs.Sizes.{bytes_length}

-- the last byte of a number is its remainder by 256, and those before it are its quotient
pub bytes_last : (w n : ℕ) → bytes_of (suc w) n ≡ bytes_of w (n / 256) ++ (n % 256 ∷ [])
unfolding bytes_of
bytes_last zero n = let one : n / 1 ≡ n = omega arith in rw one
bytes_last (suc w) n =
    let power : n / 256 ^ suc w ≡ n / 256 / 256 ^ w = ap (λ (m : ℕ). n / m) (pow-succ' 256 w) ∙ sym (div-div-eq-div-mul n 256 (256 ^ w)) in
    rw power (ap (λ (l : List ℕ). n / 256 / 256 ^ w % 256 ∷ l) (bytes_last w n))

-- a number's last byte
big_last : (s : List ℕ) (at w : ℕ) → big_endian s at (suc w) ≡ 256 * big_endian s at w + get_or s (at + w) 0
big_last s at zero = let z : at + 0 ≡ at = omega arith in rw z (omega arith)
big_last s at (suc w) = refl

big_read : (w n : ℕ) (before after : List ℕ) → n < 256 ^ w → big_endian (before ++ (bytes_of w n ++ after)) (length before) w ≡ n
big_read zero n before after h = let z : 256 ^ 0 ≡ 1 = refl in omega arith
big_read (suc w) n before after h =
    let power = pow-succ' 256 w in
    let less : n / 256 < 256 ^ w = omega arith in
    let s : List ℕ = before ++ (bytes_of w (n / 256) ++ (n % 256 ∷ after)) in
    let parts : before ++ (bytes_of (suc w) n ++ after) ≡ s = rw (bytes_last w n) (simp append_assoc) in
    let last : get_or s (length before + w) 0 ≡ n % 256 =
    get_or-append-add before (bytes_of w (n / 256) ++ (n % 256 ∷ after)) w 0
    ∙ ap (λ (k : ℕ). get_or (bytes_of w (n / 256) ++ (n % 256 ∷ after)) k 0) (sym (bytes_length w (n / 256)))
    ∙ get_or-append_seam (bytes_of w (n / 256)) (n % 256) after 0 in
    let front = big_read w (n / 256) before (n % 256 ∷ after) less in
    ap (λ (l : List ℕ). big_endian l (length before) (suc w)) parts ∙ big_last s (length before) w ∙ omega (arith, last, front)

-- a number that is written at a place is read there
pub number_read : (w n : ℕ) (before after : List ℕ) → n < 256 ^ w → number_at (before ++ (bytes_of w n ++ after)) (length before) w ≡ n
number_read w n before after h =
    let room : length before + w ≤ length (before ++ (bytes_of w n ++ after)) = simp (length-append, bytes_length) (omega arith) in
    number_within (before ++ (bytes_of w n ++ after)) (length before) w room ∙ big_read w n before after h

big_write : (s : List ℕ) (at w : ℕ) → Octets s → at + w ≤ length s → bytes_of w (big_endian s at w) ≡ take w (drop at s)
unfolding bytes_of
big_write s at zero o h = refl
big_write s at (suc w) o h =
    let front : ℕ = big_endian s at w in
    let last : ℕ = get_or s (at + w) 0 in
    let small : last < 256 = o (at + w) in
    let value : big_endian s at (suc w) ≡ 256 * front + last = big_last s at w in
    let quotient : (256 * front + last) / 256 ≡ front = omega arith in
    let rest : (256 * front + last) % 256 ≡ last = omega arith in
    let room : w < length (drop at s) = simp length-drop (omega arith) in
    let byte : get_or (drop at s) w 0 ≡ last = get_or-drop at s w 0 in
    ap (bytes_of (suc w)) value
    ∙ bytes_last w (256 * front + last)
    ∙ rw (quotient, rest) (ap (λ (l : List ℕ). l ++ (last ∷ [])) (big_write s at w o (omega arith)) ∙ rw (← byte) (sym (take-suc (drop at s) w 0 room)))

-- what is read at a place is written as it stands there
pub number_written : (s : List ℕ) (at w : ℕ) → Octets s → at + w ≤ length s → bytes_of w (number_at s at w) ≡ take w (drop at s)
number_written s at w o h = ap (bytes_of w) (number_within s at w h) ∙ big_write s at w o h
