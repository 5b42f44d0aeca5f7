-- The bytes of an announcement: "write the ESP_INFO, LOCATOR_SET and SEQ of a Move".
use Rattle.std.specs.Prelude.{ℕ, cond, List, [], ◌∷◌, ◌++◌, map, eqb}
use Rattle.octets.specs.Written.{bytes_of, joined}
use Rattle.address.specs.declared.Address.{Address}
use Rattle.parameter.specs.Types.{locator_set}
use Rattle.parameter.specs.Written.{parameter_bytes}
use Rattle.locator.specs.Locators.{spi_type}
use Rattle.locator_set.specs.Sets.{mark}
use Rattle.association.specs.declared.Association.{Association}
use Rattle.reply_form.specs.Replies.{esp_info_with, seq_bytes}
use Rattle.announcement.specs.declared.OwnLocator.{OwnLocator}

-- "16 address bytes"
abbrev pub address_bytes : Address → List ℕ
address_bytes x = bytes_of 8 x.high ++ bytes_of 8 x.low

-- "Type 0 has length 4, an address. Type 1 has length 5, an SPI and an address.": any other type is written like type 0
abbrev pub units_of : (kind : ℕ) → ℕ
units_of kind = cond (eqb kind spi_type) 5 4

-- the SPI of a type 1 entry: the new inbound one
abbrev pub spi_bytes : (kind spi : ℕ) → List ℕ
spi_bytes kind spi = cond (eqb kind spi_type) (bytes_of 4 spi) []

-- "traffic type .., locator type, length in 4-byte units, 7 reserved bits and P, lifetime 32 bits, then the locator": P alone in its byte
unfoldable pub entry_bytes : (spi : ℕ) → OwnLocator → List ℕ
entry_bytes spi e =
    e.traffic
    ∷ e.kind
    ∷ units_of e.kind
    ∷ mark e.preferred
    ∷ (bytes_of 4 e.lifetime ++ (spi_bytes e.kind spi ++ address_bytes e.address))

-- the bytes of the set: the entries one after another
unfoldable pub set_body : (spi : ℕ) → List OwnLocator → List ℕ
set_body spi es = joined (map (entry_bytes spi) es)

-- LOCATOR_SET
abbrev pub locator_set_bytes : (spi : ℕ) → List OwnLocator → List ℕ
locator_set_bytes spi es = parameter_bytes locator_set (set_body spi es)

-- "OLD SPI is the inbound SPI, which becomes the new one; the Update ID is the next own one"
unfoldable pub announcement_bytes : Association → List OwnLocator → (inbound keymat : ℕ) → List ℕ
announcement_bytes a es inbound keymat = esp_info_with keymat a.inbound inbound ++ (locator_set_bytes inbound es ++ seq_bytes a.next)
