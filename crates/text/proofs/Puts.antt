-- Where a text ends, and bytes written in hex one after another. Assumes nothing.
use Prim.Native.Nat.{ℕ, suc, ◌+◌, ◌*◌, ◌/◌, ◌%◌, ◌≤◌, ◌<◌}
use mathlib.Core.Path.{◌≡◌, refl, sym, ap, ◌∙◌}
use mathlib.Core.List.{List, [], ◌∷◌, ◌++◌}
use lib.ListN.{length, take, drop, get_or, set, take-append-drop, length-append}
use lib.Seq.{take-suc, take_all, length-take-le}
use borrow.Author.Tests.{le-leb, lt-leb}
use native.Mathlib.Numerals.{add-one}
use native.Mathlib.Omega.{arith}
use Rattle.writer.specs.Writes.{written_at}
use Rattle.writer.proofs.Writes.{written_beyond, written_length, written_none, written_more}
use Rattle.writer.proofs.Stores.{stored}
use Rattle.text.specs.Texts.{glyph_of, hex_of, end_of}

-- a text that fits
pub end_within : (at : ℕ) (text buffer : List ℕ) → at + length text ≤ length buffer → at + length text ≡ end_of at text buffer
unfolding end_of
end_within at text buffer h = rw (le-leb _ _ h)

-- ---- bytes in hex
hex_append : (x y : List ℕ) → hex_of (x ++ y) ≡ hex_of x ++ hex_of y
unfolding hex_of
hex_append [] y = refl
hex_append (b ∷ x) y = ap (λ (t : List ℕ). glyph_of (b / 16) ∷ glyph_of (b % 16) ∷ t) (hex_append x y)

pub hex_length : (x : List ℕ) → length (hex_of x) ≡ 2 * length x
unfolding hex_of
hex_length [] = refl
hex_length (b ∷ x) = omega (arith, hex_length x)

-- all of them
pub hex_all : (i : ℕ) (bytes : List ℕ) → length bytes ≤ i → hex_of (take i bytes) ≡ hex_of bytes
hex_all i bytes h = rw (take_all i bytes h)

module _ (at : ℕ) (bytes buffer : List ℕ) where
  -- where they do not all fit
  pub hex_beyond : length buffer < at + 2 * length bytes → written_at at (hex_of bytes) buffer ≡ buffer
  hex_beyond h = sym (written_beyond at (hex_of bytes) buffer (omega (arith, hex_length bytes)))

  pub hex_stays : length buffer < at + 2 * length bytes → end_of at (hex_of bytes) buffer ≡ at
  unfolding end_of
  hex_stays h = let past : length buffer < at + length (hex_of bytes) = omega (arith, hex_length bytes) in rw (lt-leb _ _ past)

  -- where they do
  pub hex_end : at + 2 * length bytes ≤ length buffer → end_of at (hex_of bytes) buffer ≡ at + 2 * length bytes
  hex_end h = sym (end_within at (hex_of bytes) buffer (omega (arith, hex_length bytes))) ∙ omega (arith, hex_length bytes)

-- no byte yet
pub hex_none : (at : ℕ) (buffer : List ℕ) → buffer ≡ written_at at (hex_of []) buffer
unfolding hex_of
hex_none at buffer = written_none at buffer

-- one byte more, after those before it
pub hex_next : (at i end next : ℕ) (bytes buffer once twice : List ℕ) → i < length bytes → at + 2 * length bytes ≤ length buffer → end ≡ at + 2 * i
    → once ≡ written_at at (hex_of (take i bytes)) buffer → twice ≡ written_at end (hex_of (get_or bytes i 0 ∷ [])) once
    → next ≡ end_of end (hex_of (get_or bytes i 0 ∷ [])) once → (twice ≡ written_at at (hex_of (take (i + 1) bytes)) buffer) × (next ≡ at + 2 * (i + 1))
hex_next at i end next bytes buffer once twice h room e p q n =
    let done : List ℕ = hex_of (take i bytes) in
    let pair : List ℕ = hex_of (get_or bytes i 0 ∷ []) in
    let more : hex_of (take (i + 1) bytes) ≡ done ++ pair = rw (add-one, take-suc bytes i 0 h) (hex_append (take i bytes) (get_or bytes i 0 ∷ [])) in
    let few : i ≤ length bytes = omega arith in
    let byte : List ℕ = get_or bytes i 0 ∷ [] in
    let two : length pair ≡ 2 = hex_length byte in
    let before : length done ≡ 2 * i = omega (arith, hex_length (take i bytes), length-take-le i bytes few) in
    let kept : length once ≡ length buffer = ap length p ∙ written_length at done buffer in (
      rw more (written_more at end done pair buffer once twice (omega arith) (omega arith) p q),
      n ∙ hex_end end byte once (omega arith) ∙ omega arith,
    )

-- the same, as its two digits are stored
pub hex_stored : (at i : ℕ) (digits bytes buffer once : List ℕ) → i < length bytes → at + 2 * length bytes ≤ length buffer
    → once ≡ written_at at (hex_of (take i bytes)) buffer → digits ≡ hex_of (get_or bytes i 0 ∷ [])
    → set (set once (at + 2 * i) (get_or digits 0 0)) (at + 2 * i + 1) (get_or digits 1 0) ≡ written_at at (hex_of (take (i + 1) bytes)) buffer
unfolding hex_of
hex_stored at i digits bytes buffer once h room p d =
    let b : ℕ = get_or bytes i 0 in
    let kept : length once ≡ length buffer = ap length p ∙ written_length at (hex_of (take i bytes)) buffer in
    let pair = stored (at + 2 * i) (glyph_of (b / 16)) (glyph_of (b % 16) ∷ []) (hex_of (b ∷ [])) once refl (omega arith) in
    rw d (hex_next at i (at + 2 * i) _ bytes buffer once _ h room refl p pair refl).0

-- ---- a loop that writes what the bytes of a text are spelled as, one byte after another
pub record Spelling (spell : List ℕ → List ℕ) : Type 0 where
  pub none : spell [] ≡ []
  pub joins : (x y : List ℕ) → spell (x ++ y) ≡ spell x ++ spell y

-- bytes as they are, and bytes in hex
pub plain : Spelling (λ (t : List ℕ). t)
plain = record { none = refl; joins = λ (x y : List ℕ). refl }

pub hex : Spelling hex_of
unfolding hex_of
hex = record { none = refl; joins = hex_append }

module _ (spell : List ℕ → List ℕ) (p : Spelling spell) (at : ℕ) (text buffer : List ℕ) where
  -- at first nothing is written
  pub begun : buffer ≡ written_at at (spell (take 0 text)) buffer
  begun = written_none at buffer ∙ ap (λ (t : List ℕ). written_at at t buffer) (sym p.none)

  -- one byte more
  pub onward : (i place : ℕ) (out after : List ℕ) → i < length text → place ≡ at + length (spell (take i text))
      → at + length (spell text) ≤ length buffer → out ≡ written_at at (spell (take i text)) buffer
      → after ≡ written_at place (spell (get_or text i 0 ∷ [])) out → after ≡ written_at at (spell (take (i + 1) text)) buffer
  onward i place out after h there room e g =
      let one : i + 1 ≡ suc i = omega arith in
      let byte : List ℕ = get_or text i 0 ∷ [] in
      let done : List ℕ = spell (take i text) in
      let more : spell (take (i + 1) text) ≡ done ++ spell byte = rw (one, take-suc text i 0 h) (p.joins (take i text) byte) in
      let rest : spell text ≡ (done ++ spell byte) ++ spell (drop (suc i) text) =
      ap spell (sym (take-append-drop (suc i) text))
      ∙ p.joins (take (suc i) text) (drop (suc i) text)
      ∙ ap (λ (t : List ℕ). t ++ spell (drop (suc i) text)) (ap (λ (k : ℕ). spell (take k text)) (sym one) ∙ more) in
      let sizes : length (spell text) ≡ length done + length (spell byte) + length (spell (drop (suc i) text)) = rw rest (simp length-append) in
      rw more (written_more at place done (spell byte) buffer out after there (omega arith) e g)

  -- all bytes
  pub ended : (i : ℕ) (out : List ℕ) → length text ≤ i → out ≡ written_at at (spell (take i text)) buffer → out ≡ written_at at (spell text) buffer
  ended i out h e = rw (take_all i text h) at e

-- ---- bytes as they are, one after another
pub plain_none : (at : ℕ) (buffer : List ℕ) → buffer ≡ written_at at [] buffer
plain_none at buffer = written_none at buffer

pub plain_all : (i : ℕ) (text : List ℕ) → length text ≤ i → take i text ≡ text
plain_all i text h = take_all i text h

module _ (at : ℕ) (text buffer : List ℕ) where
  -- one byte more, after those before it
  pub plain_stored : (i : ℕ) (once : List ℕ) → i < length text → at + length text ≤ length buffer → once ≡ written_at at (take i text) buffer
      → set once (at + i) (get_or text i 0) ≡ written_at at (take (i + 1) text) buffer
  plain_stored i once h room p =
      let x : ℕ = get_or text i 0 in
      let few : i ≤ length text = omega arith in
      let kept : length once ≡ length buffer = ap length p ∙ written_length at (take i text) buffer in
      onward (λ (t : List ℕ). t) plain at text buffer i (at + i) once _ h (omega (arith, length-take-le i text few)) room p
      (stored (at + i) x [] (x ∷ []) once refl (omega arith))

  -- where they do not all fit
  pub plain_beyond : length buffer < at + length text → written_at at text buffer ≡ buffer
  plain_beyond h = sym (written_beyond at text buffer h)

  pub plain_stays : length buffer < at + length text → end_of at text buffer ≡ at
  unfolding end_of
  plain_stays h = rw (lt-leb _ _ h)

  -- where they do
  pub plain_end : at + length text ≤ length buffer → end_of at text buffer ≡ at + length text
  plain_end h = sym (end_within at text buffer h)

-- what the loops need
pub ruleset hex_laws = (hex_none, hex_stored, hex_all, hex_beyond, hex_stays, hex_end)

pub ruleset plain_laws = (plain_none, plain_stored, plain_all, plain_beyond, plain_stays, plain_end)
