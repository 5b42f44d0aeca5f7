-- "A locator (000, section 4): traffic type (0 both, 1 signalling, 2 data), locator type, length in 4-byte units, 7 reserved bits and P,
-- lifetime 32 bits, then the locator." Here s is the bytes of a LOCATOR_SET, and `at` is a place in it where a locator starts.
use Rattle.std.specs.Prelude.{ℕ, ◌+◌, ◌*◌, ◌%◌, Bool, not, cond, ◌||◌, List, Result, Ok, Err, ltb, eqb, length, get_or}
use Rattle.refusal.specs.declared.Refusal.{Refusal}
use Rattle.refusal.specs.Table.{refusal}
use Rattle.octets.specs.Numbers.{number_at}
use Rattle.octets.specs.Records.{records}
use Rattle.address.specs.Rules.{address_at, legal}
use Rattle.address.specs.declared.Address.{Address}
use Rattle.locator.specs.declared.ListedLocator.{ListedLocator}

-- the bytes of a locator before its SPI or address
abbrev pub head_size : ℕ
head_size = 8

-- "length in 4-byte units"
abbrev pub unit : ℕ
unit = 4

-- the locator type that has an SPI
abbrev pub spi_type : ℕ
spi_type = 1

-- "traffic type (0 both, 1 signalling, 2 data)"
abbrev pub traffic_at : List ℕ → ℕ → ℕ
traffic_at s at = get_or s at 0

-- the locator type
abbrev pub kind_at : List ℕ → ℕ → ℕ
kind_at s at = get_or s (at + 1) 0

-- the length
abbrev pub units_at : List ℕ → ℕ → ℕ
units_at s at = get_or s (at + 2) 0

-- P is the lowest bit of its byte; the "7 reserved bits" above it are not judged
abbrev pub preferred_at : List ℕ → ℕ → Bool
preferred_at s at = eqb (get_or s (at + 3) 0 % 2) 1

-- "lifetime 32 bits"
abbrev pub lifetime_at : List ℕ → ℕ → ℕ
lifetime_at s at = number_at s (at + 4) 4

-- "Type 0 has length 4, an address. Type 1 has length 5, an SPI and an address": the address stands after the 8 bytes of the head, and
-- after the SPI where there is one
abbrev pub listed_address : List ℕ → ℕ → Address
listed_address s at = address_at s (at + head_size + unit * kind_at s at)

-- the SPI of a type 1 locator, 0 for type 0
abbrev pub spi_at : List ℕ → ℕ → ℕ
spi_at s at = cond (eqb (kind_at s at) 0) 0 (number_at s (at + head_size) 4)

-- where the next locator starts
abbrev pub next_locator : List ℕ → ℕ → ℕ
next_locator s at = at + head_size + unit * units_at s at

-- the places where the set's locators start, in order. The last locator may run past the set's end
abbrev pub places : List ℕ → List ℕ
places s = records (λ (at : ℕ). at) (next_locator s) (length s) (length s) 0

-- the locator runs past the set's end, "unknown traffic or locator type, wrong length, lifetime 0"
unfoldable pub ill_form : List ℕ → ℕ → Bool
ill_form s at =
    ltb (length s) (next_locator s at)
    || (ltb 2 (traffic_at s at) || (ltb 1 (kind_at s at) || (not (eqb (units_at s at) (4 + kind_at s at)) || eqb (lifetime_at s at) 0)))

-- the same, or "address not legal"
abbrev pub illegal_at : List ℕ → ℕ → Bool
illegal_at s at = ill_form s at || not (legal (listed_address s at))

-- what the locator at `at` says
abbrev pub listed_at : List ℕ → ℕ → ListedLocator
listed_at s at = record {
  address = listed_address s at;
  lifetime = lifetime_at s at;
  spi = spi_at s at;
  traffic = traffic_at s at;
  kind = kind_at s at;
  preferred = preferred_at s at;
}

-- one step of the walk over a set: the locator and where the next one starts, or refusal 6
abbrev pub locator_step_at : List ℕ → ℕ → Result (ListedLocator × ℕ) Refusal
locator_step_at s at = cond (illegal_at s at) (Err (refusal 6)) (Ok (listed_at s at, next_locator s at))
