-- An announcement is written part by part: each law takes the buffers that the calls leave one after another. Assumes nothing.
use Prim.Native.Nat.{ℕ, ◌+◌, ◌-◌, ◌%◌, ◌≤◌, ◌<◌}
use mathlib.Core.Path.{◌≡◌, refl, sym, ap, ◌∙◌}
use mathlib.Core.Bool.{false}
use mathlib.Core.List.{List, [], ◌∷◌, ◌++◌, append_assoc, append-nil}
use lib.ListN.{length, take, drop, get_or, take-append-drop, length-append, length-replicate}
use lib.Seq.{take-suc}
use native.Mathlib.Numerals.{add-one}
use native.Mathlib.Omega.{arith}
use Rattle.octets.specs.Written.{bytes_of}
use Rattle.octets.proofs.Sizes.{bytes_length}
use Rattle.address.specs.declared.Address.{Address}
use Rattle.parameter.specs.Types.{locator_set}
use Rattle.parameter.specs.Parameters.{takes}
use Rattle.parameter.specs.Written.{parameter_bytes}
use Rattle.parameter.proofs.Sizes.{parameter_length}
use Rattle.locator_set.specs.Sets.{mark}
use Rattle.writer.specs.Writes.{written_at}
use Rattle.writer.proofs.Writes.{written_more, written_none}
use Rattle.reply.proofs.Parts.{part_beyond}
use Rattle.announcement.specs.declared.OwnLocator.{OwnLocator}
use Rattle.announcement.specs.Written.{units_of, spi_bytes, address_bytes, entry_bytes, set_body, locator_set_bytes}
use Rattle.announcement.specs.Entries.{entry_size, set_size}
use Rattle.announcement.proofs.Sizes.{spi_length, entry_length, set_length}
use Rattle.announce_writer.specs.Parts.{entry_head, padding}

-- ---- bytes at places one after another
-- three parts
pub three_written : (at next last : ℕ) (x y z b b1 b2 b3 : List ℕ) → next ≡ at + length x → last ≡ next + length y → last + length z ≤ length b
    → b1 ≡ written_at at x b → b2 ≡ written_at next y b1 → b3 ≡ written_at last z b2 → b3 ≡ written_at at (x ++ (y ++ z)) b
three_written at next last x y z b b1 b2 b3 n l h p1 p2 p3 =
    let size = length-append x y in
    let two = written_more at next x y b b1 b2 n (omega arith) p1 p2 in
    written_more at last (x ++ y) z b b2 b3 (omega arith) h two p3 ∙ ap (λ (s : List ℕ). written_at at s b) (append_assoc x y z)

-- ---- an entry
-- its head: its first four bytes, and its lifetime
pub entry_head_written : (e : OwnLocator) (at : ℕ) (b b1 b2 : List ℕ) → at + 8 ≤ length b
    → b1 ≡ written_at at (e.traffic ∷ e.kind ∷ units_of e.kind ∷ mark e.preferred ∷ []) b → b2 ≡ written_at (at + 4) (bytes_of 4 e.lifetime) b1
    → b2 ≡ written_at at (entry_head e) b
entry_head_written e at b b1 b2 h p1 p2 =
    let size = bytes_length 4 e.lifetime in
    written_more at (at + 4) (e.traffic ∷ e.kind ∷ units_of e.kind ∷ mark e.preferred ∷ []) (bytes_of 4 e.lifetime) b b1 b2 refl (omega arith) p1 p2

pub address_written : (x : Address) (at : ℕ) (b b1 b2 : List ℕ) → at + 16 ≤ length b → b1 ≡ written_at at (bytes_of 8 x.high) b
    → b2 ≡ written_at (at + 8) (bytes_of 8 x.low) b1 → b2 ≡ written_at at (address_bytes x) b
address_written x at b b1 b2 h p1 p2 =
    let l = bytes_length 8 x.high in
    let m = bytes_length 8 x.low in
    written_more at (at + 8) (bytes_of 8 x.high) (bytes_of 8 x.low) b b1 b2 (omega arith) (omega arith) p1 p2

-- the address ends where the entry does
pub entry_written : (spi : ℕ) (e : OwnLocator) (at place : ℕ) (b b1 b2 b3 : List ℕ) → at + entry_size e ≤ length b → place + 16 ≡ at + entry_size e
    → b1 ≡ written_at at (entry_head e) b → b2 ≡ written_at (at + 8) (spi_bytes e.kind spi) b1 → b3 ≡ written_at place (address_bytes e.address) b2
    → b3 ≡ written_at at (entry_bytes spi e) b
unfolding entry_bytes
entry_written spi e at place b b1 b2 b3 h q p1 p2 p3 =
    let own : List ℕ = spi_bytes e.kind spi in
    let address : List ℕ = address_bytes e.address in
    let lh : length (entry_head e) ≡ 8 = rw (bytes_length 4 e.lifetime) in
    let lo = spi_length e.kind spi in
    let la : length address ≡ 16 = simp (length-append, bytes_length) in
    three_written at (at + 8) place (entry_head e) own address b b1 b2 b3 (omega arith) (omega arith) (omega arith) p1 p2 p3

-- ---- the entries
-- what an entry is past a list's end
abbrev pub blank_entry : OwnLocator
blank_entry = record { address = record { high = 0; low = 0 }; lifetime = 0; kind = 0; traffic = 0; preferred = false }

module _ (spi : ℕ) where
  body_append : (xs ys : List OwnLocator) → set_body spi (xs ++ ys) ≡ set_body spi xs ++ set_body spi ys
  unfolding set_body
  body_append [] ys = refl
  body_append (x ∷ xs) ys =
      ap (λ (s : List ℕ). entry_bytes spi x ++ s) (body_append xs ys) ∙ sym (append_assoc (entry_bytes spi x) (set_body spi xs) (set_body spi ys))

  body_one : (e : OwnLocator) → set_body spi (e ∷ []) ≡ entry_bytes spi e
  unfolding set_body
  body_one e = append-nil (entry_bytes spi e)

size_append : (xs ys : List OwnLocator) → set_size (xs ++ ys) ≡ set_size xs + set_size ys
unfolding set_size
size_append [] ys = omega arith
size_append (x ∷ xs) ys = omega (arith, size_append xs ys)

size_one : (e : OwnLocator) → set_size (e ∷ []) ≡ entry_size e
unfolding set_size
size_one e = omega arith

-- entry k after those before it
module _ (es : List OwnLocator) (k : ℕ) (d : OwnLocator) (h : k < length es) where
  taken_more : take (k + 1) es ≡ take k es ++ (get_or es k d ∷ [])
  taken_more = rw (add-one k) (take-suc es k d h)

  size_more : set_size (take (k + 1) es) ≡ set_size (take k es) + entry_size (get_or es k d)
  size_more = rw taken_more (size_append (take k es) (get_or es k d ∷ []) ∙ ap (λ (n : ℕ). set_size (take k es) + n) (size_one (get_or es k d)))

  pub size_within : set_size (take k es) + entry_size (get_or es k d) ≤ set_size es
  size_within =
      let parts = ap set_size (take-append-drop (k + 1) es) in
      omega (arith, size_more, size_append (take (k + 1) es) (drop (k + 1) es), parts)

  pub entries_next : (spi at next : ℕ) (b b1 b2 : List ℕ) → at + set_size (take k es) + entry_size (get_or es k d) ≤ length b
      → next ≡ at + set_size (take k es) → b1 ≡ written_at at (set_body spi (take k es)) b → b2 ≡ written_at next (entry_bytes spi (get_or es k d)) b1
      → b2 ≡ written_at at (set_body spi (take (k + 1) es)) b
  entries_next spi at next b b1 b2 room n p q =
      let done = set_length spi (take k es) in
      let more = entry_length spi (get_or es k d) in
      let whole : set_body spi (take k es) ++ entry_bytes spi (get_or es k d) ≡ set_body spi (take (k + 1) es) =
      ap (λ (s : List ℕ). set_body spi (take k es) ++ s) (sym (body_one spi (get_or es k d)))
      ∙ sym (body_append spi (take k es) (get_or es k d ∷ []))
      ∙ ap (set_body spi) (sym taken_more) in
      written_more at next (set_body spi (take k es)) (entry_bytes spi (get_or es k d)) b b1 b2 (omega arith) (omega arith) p q
      ∙ ap (λ (s : List ℕ). written_at at s b) whole

  pub place_next : (at next place : ℕ) → next ≡ at + set_size (take k es) → place ≡ next + entry_size (get_or es k d) → place ≡ at + set_size (take (k + 1) es)
  place_next at next place n p = omega (arith, size_more)

-- before the first entry nothing is written
pub entries_none : (spi at : ℕ) (es : List OwnLocator) (b : List ℕ) → b ≡ written_at at (set_body spi (take 0 es)) b
unfolding set_body
entries_none spi at es b = written_none at b

pub place_first : (at : ℕ) (es : List OwnLocator) → at ≡ at + set_size (take 0 es)
unfolding set_size
place_first at es = omega arith

-- ---- LOCATOR_SET
-- its entries are whole units
pub whole_units : (es : List OwnLocator) → set_size es % 4 ≡ 0
unfolding set_size
whole_units [] = refl
whole_units (e ∷ es) = let rest = whole_units es in omega arith

-- so its padding is four bytes or none
pub four_padding : (size : ℕ) → size % 8 ≡ 0 → bytes_of 4 0 ≡ padding size
unfolding bytes_of
four_padding size h = let n : takes size - (4 + size) ≡ 4 = omega arith in rw n

pub no_padding : (size : ℕ) → size % 4 ≡ 0 → (size % 8 ≡ 0 → ⊥) → [] ≡ padding size
no_padding size u h = let n : takes size - (4 + size) ≡ 0 = omega arith in rw n

pub set_written : (spi : ℕ) (es : List OwnLocator) (size at end : ℕ) (b b1 b2 b3 : List ℕ) → size ≡ set_size es → at + takes size ≤ length b
    → b1 ≡ written_at at (bytes_of 2 locator_set ++ bytes_of 2 size) b → b2 ≡ written_at (at + 4) (set_body spi es) b1
    → end ≡ at + 4 + set_size es → b3 ≡ written_at end (padding size) b2 → b3 ≡ written_at at (locator_set_bytes spi es) b
unfolding parameter_bytes
set_written spi es size at end b b1 b2 b3 s h p1 p2 q p3 =
    let body : List ℕ = set_body spi es in
    let head : List ℕ = bytes_of 2 locator_set ++ bytes_of 2 size in
    let lb : length body ≡ size = set_length spi es ∙ sym s in
    let lh : length head ≡ 4 = simp (length-append, bytes_length) in
    let lp : length (padding size) ≡ takes size - (4 + size) = length-replicate (takes size - (4 + size)) 0 in
    let whole : head ++ (body ++ padding size) ≡ locator_set_bytes spi es = rw (← lb) (simp append_assoc) in
    three_written at (at + 4) end head body (padding size) b b1 b2 b3 (omega arith) (omega arith) (omega arith) p1 p2 p3
    ∙ ap (λ (l : List ℕ). written_at at l b) whole

-- the bytes that it takes
module _ (spi : ℕ) (es : List OwnLocator) (size : ℕ) (s : size ≡ length (set_body spi es)) where
  pub set_taken : length (locator_set_bytes spi es) ≡ takes size
  set_taken = parameter_length locator_set (set_body spi es) ∙ ap takes (sym s)

  -- one that does not fit
  pub set_beyond : (at : ℕ) (b : List ℕ) → length b < at + takes size → b ≡ written_at at (locator_set_bytes spi es) b
  set_beyond at b h = part_beyond at (takes size) (locator_set_bytes spi es) b set_taken h
