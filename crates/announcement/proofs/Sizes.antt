-- How many bytes are written for an entry, for a set and for an announcement: the SPI does not matter. Assumes nothing.
use Prim.Native.Nat.{ℕ, ◌+◌, ◌*◌, ◌≤◌}
use mathlib.Core.Path.{◌≡◌, refl}
use mathlib.Core.Bool.{Bool, true, false, cond}
use mathlib.Core.List.{List, [], ◌∷◌}
use lib.Dec.{eqb}
use lib.ListN.{length, length-append}
use native.Mathlib.Omega.{arith}
use borrow.Author.Tests.{eqb-true, eqb-false}
use Rattle.octets.specs.Written.{bytes_of}
use Rattle.octets.proofs.Sizes.{bytes_length}
use Rattle.parameter.specs.Parameters.{takes}
use Rattle.parameter.proofs.Sizes.{parameter_length}
use Rattle.locator.specs.Locators.{spi_type}
use Rattle.association.specs.declared.Association.{Association}
use Rattle.announcement.specs.declared.OwnLocator.{OwnLocator}
use Rattle.announcement.specs.Written.{units_of, spi_bytes, entry_bytes, set_body, announcement_bytes}
use Rattle.announcement.specs.Entries.{entry_size, set_size}

-- an SPI, where there is one, is the fifth unit
pub spi_length : (kind spi : ℕ) → 16 + length (spi_bytes kind spi) ≡ 4 * units_of kind
spi_length kind spi = go (eqb kind spi_type)
  where
    go : (b : Bool) → 16 + length (cond b (bytes_of 4 spi) []) ≡ 4 * cond b 5 4
    go true = rw (bytes_length 4 spi)
    go false = refl

pub entry_length : (spi : ℕ) (e : OwnLocator) → length (entry_bytes spi e) ≡ entry_size e
unfolding entry_bytes
entry_length spi e =
    simp (length-append, bytes_length) (omega (arith, spi_length e.kind spi))

-- four units, or five
pub units_least : (kind : ℕ) → 4 ≤ units_of kind
units_least kind = go (eqb kind spi_type)
  where
    go : (b : Bool) → 4 ≤ cond b 5 4
    go true = omega arith
    go false = omega arith

pub units_most : (kind : ℕ) → units_of kind ≤ 5
units_most kind = go (eqb kind spi_type)
  where
    go : (b : Bool) → cond b 5 4 ≤ 5
    go true = omega arith
    go false = omega arith

-- the length of a known type: its SPI is a unit
pub units_known : (kind : ℕ) → kind ≤ 1 → units_of kind ≡ 4 + kind
units_known kind h = go (eqb kind spi_type) refl
  where
    go : (b : Bool) → eqb kind spi_type ≡ b → cond b 5 4 ≡ 4 + kind
    go true p = omega (arith, eqb-true kind spi_type p)
    go false p = omega (arith, eqb-false kind spi_type p)

pub set_length : (spi : ℕ) (es : List OwnLocator) → length (set_body spi es) ≡ set_size es
unfolding set_body set_size
set_length spi [] = refl
set_length spi (e ∷ es) = simp (length-append, entry_length) (omega (arith, set_length spi es))

pub set_most : (es : List OwnLocator) → set_size es ≤ 28 * length es
unfolding set_size
set_most [] = omega arith
set_most (e ∷ es) = omega (arith, units_most e.kind, set_most es)

pub set_least : (es : List OwnLocator) → 24 * length es ≤ set_size es
unfolding set_size
set_least [] = omega arith
set_least (e ∷ es) = omega (arith, units_least e.kind, set_least es)

-- the eight entries that a list may have
pub set_bound : (spi : ℕ) (es : List OwnLocator) → length es ≤ 8 → length (set_body spi es) ≤ 224
set_bound spi es h = omega (arith, set_length spi es, set_most es)

-- ESP_INFO and SEQ take 24 bytes
pub announcement_length : (a : Association) (es : List OwnLocator) (inbound keymat : ℕ)
    → length (announcement_bytes a es inbound keymat) ≡ 24 + takes (length (set_body inbound es))
unfolding announcement_bytes
announcement_length a es inbound keymat = simp (length-append, parameter_length, bytes_length) (omega arith)
