-- An entry that stands anywhere in bytes is read there as it was written. Assumes nothing.
use Prim.Native.Nat.{ℕ, ◌+◌, ◌*◌, ◌%◌, ◌^◌, ◌<◌, ◌≤◌}
use mathlib.Core.Path.{◌≡◌, refl, sym, ap, ◌∙◌}
use mathlib.Core.Bool.{Bool, true, false, cond}
use mathlib.Core.List.{List, [], ◌∷◌, ◌++◌, append_assoc}
use lib.Dec.{eqb}
use lib.ListN.{length, get_or, length-append}
use lib.Seq.{get_or-append-add}
use native.Mathlib.Omega.{arith}
use borrow.Author.Tests.{eq-eqb, ne_eqb, eqb-true, eqb-false}
use Rattle.octets.specs.Numbers.{number_at}
use Rattle.octets.specs.Written.{bytes_of}
use Rattle.octets.proofs.Sizes.{bytes_length}
use Rattle.octets.proofs.ReadBack.{number_read}
use Rattle.address.specs.declared.Address.{Address}
use Rattle.address.specs.Rules.{address_at}
use Rattle.locator.specs.Locators.{spi_type, traffic_at, kind_at, units_at, preferred_at, lifetime_at, listed_address, spi_at, next_locator, listed_at}
use Rattle.locator_set.specs.Sets.{mark}
use Rattle.announcement.specs.declared.OwnLocator.{OwnLocator}
use Rattle.announcement.specs.Written.{units_of, spi_bytes, address_bytes, entry_bytes}
use Rattle.announcement.specs.Sized.{Sized}
use Rattle.announcement.specs.Entries.{entry_size}
use Rattle.announcement.specs.Listed.{as_listed}
use Rattle.announcement.proofs.Sizes.{spi_length, entry_length, units_known}

-- s holds the bytes of the entry at `at`, with these bytes before it and after it
pub record Stands (spi : ℕ) (s : List ℕ) (at : ℕ) (e : OwnLocator) : Type 0 where
  pub before : List ℕ
  pub after : List ℕ
  pub bytes : s ≡ before ++ (entry_bytes spi e ++ after)
  pub place : at ≡ length before

-- a number that is written k bytes after a place is read there
number_after : (w n k : ℕ) (before front after s : List ℕ) (at : ℕ) → s ≡ before ++ (front ++ (bytes_of w n ++ after)) → at ≡ length before
    → length front ≡ k → n < 256 ^ w → number_at s (at + k) w ≡ n
number_after w n k before front after s at e p l h =
    let split : s ≡ (before ++ front) ++ (bytes_of w n ++ after) = e ∙ sym (append_assoc before front (bytes_of w n ++ after)) in
    let there : at + k ≡ length (before ++ front) = simp length-append (omega arith) in
    rw (split, there) (number_read w n (before ++ front) after h)

-- an SPI is 4 bytes, which type 0 has not
spi_size : (kind spi : ℕ) → kind ≤ 1 → length (spi_bytes kind spi) ≡ 4 * kind
spi_size kind spi h = omega (arith, spi_length kind spi, units_known kind h)

-- P is read from the byte that it stands in
mark_read : (b : Bool) → eqb (mark b % 2) 1 ≡ b
mark_read true = refl
mark_read false = refl

-- an address by its halves
halves_are : (high low : ℕ) (x : Address) → high ≡ x.high → low ≡ x.low → record { high = high; low = low } ≡ x
halves_are high low x p q = rw (p, q)

module _ (spi : ℕ) (s : List ℕ) (at : ℕ) (e : OwnLocator) (w : Stands spi s at e) where
  -- the four bytes of the head before the lifetime
  abbrev head : List ℕ
  head = e.traffic ∷ e.kind ∷ units_of e.kind ∷ mark e.preferred ∷ []

  byte_read : (i : ℕ) → get_or s (at + i) 0 ≡ get_or (entry_bytes spi e ++ w.after) i 0
  byte_read i = rw (w.bytes, w.place) (get_or-append-add w.before (entry_bytes spi e ++ w.after) i 0)

  pub traffic_read : traffic_at s at ≡ e.traffic
  unfolding entry_bytes
  traffic_read = let z : at + 0 ≡ at = omega arith in rw z at (byte_read 0)

  pub kind_read : kind_at s at ≡ e.kind
  unfolding entry_bytes
  kind_read = byte_read 1

  pub units_read : units_at s at ≡ units_of e.kind
  unfolding entry_bytes
  units_read = byte_read 2

  pub preferred_read : preferred_at s at ≡ e.preferred
  unfolding entry_bytes
  preferred_read = ap (λ (n : ℕ). eqb (n % 2) 1) (byte_read 3) ∙ mark_read e.preferred

  -- the next entry starts where this one ends, which is within s
  pub next_read : next_locator s at ≡ at + entry_size e
  next_read = rw units_read (omega arith)

  pub within : at + entry_size e ≤ length s
  within = rw (w.bytes, w.place) (simp (length-append, entry_length) (omega arith))

  -- the eight bytes before the SPI or the address
  abbrev front : List ℕ
  front = head ++ bytes_of 4 e.lifetime

  front_length : length front ≡ 8
  front_length = rw (bytes_length 4 e.lifetime)

  pub lifetime_read : Sized e → lifetime_at s at ≡ e.lifetime
  unfolding entry_bytes
  lifetime_read z =
      number_after 4 e.lifetime 4 w.before head ((spi_bytes e.kind spi ++ address_bytes e.address) ++ w.after) s at
      (w.bytes ∙ simp append_assoc) w.place refl z.lifetime

  -- the SPI and the address of an entry of a known type
  module _ (known : e.kind ≤ 1) where
    pub spi_read : spi < 2 ^ 32 → spi_at s at ≡ cond (eqb e.kind spi_type) spi 0
    unfolding entry_bytes
    spi_read h = rw kind_read (go (eqb e.kind spi_type) refl)
      where
        go : (b : Bool) → eqb e.kind spi_type ≡ b → cond (eqb e.kind 0) 0 (number_at s (at + 8) 4) ≡ cond b spi 0
        go true p =
            let one : e.kind ≡ 1 = eqb-true e.kind spi_type p in
            let bytes : s ≡ w.before ++ (front ++ (bytes_of 4 spi ++ (address_bytes e.address ++ w.after))) = w.bytes ∙ simp (p, append_assoc) in
            rw (ne_eqb e.kind 0 (λ z. omega arith))
            (number_after 4 spi 8 w.before front (address_bytes e.address ++ w.after) s at bytes w.place front_length h)
        go false p = rw (eq-eqb e.kind 0 (omega (arith, eqb-false e.kind spi_type p)))

    pub address_read : Sized e → listed_address s at ≡ e.address
    unfolding entry_bytes
    address_read z =
        let x : Address = e.address in
        let middle : List ℕ = front ++ spi_bytes e.kind spi in
        let size : length middle ≡ 8 + 4 * e.kind = simp (length-append, bytes_length, spi_size e.kind spi known) in
        let high : number_at s (at + (8 + 4 * e.kind)) 8 ≡ x.high =
        number_after 8 x.high (8 + 4 * e.kind) w.before middle (bytes_of 8 x.low ++ w.after) s at (w.bytes ∙ simp append_assoc) w.place size
        z.high in
        let low : number_at s (at + (16 + 4 * e.kind)) 8 ≡ x.low =
        number_after 8 x.low (16 + 4 * e.kind) w.before (middle ++ bytes_of 8 x.high) w.after s at (w.bytes ∙ simp append_assoc) w.place
        (simp (length-append, bytes_length) (omega (arith, spi_size e.kind spi known))) z.low in
        let first : at + 8 + 4 * e.kind ≡ at + (8 + 4 * e.kind) = omega arith in
        let second : at + (8 + 4 * e.kind) + 8 ≡ at + (16 + 4 * e.kind) = omega arith in
        ap (λ (k : ℕ). address_at s (at + 8 + 4 * k)) kind_read
        ∙ ap (address_at s) first
        ∙ halves_are _ _ x high (ap (λ (k : ℕ). number_at s k 8) second ∙ low)

    -- the whole of it
    pub listed_read : Sized e → spi < 2 ^ 32 → listed_at s at ≡ as_listed spi e
    listed_read z h = rw (address_read z, lifetime_read z, spi_read h, traffic_read, kind_read, preferred_read)
