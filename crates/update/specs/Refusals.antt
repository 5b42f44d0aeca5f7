-- The refusals of a message that are not judged below: 1, 2, 7, 9, 11 and 22, and what is Repeated. Refusal 0 is `association`'s, 3 to 6 are
-- `packet`'s, 8 and 10 are `readdress`'s.
use Rattle.std.specs.Prelude.{ℕ, ◌+◌, ◌*◌, Bool, false, not, ◌&&◌, ◌||◌, List, ltb, eqb, length, None, Option, Some}
use Rattle.std.specs.List.{list_any}
use Rattle.locator.specs.Locators.{spi_type}
use Rattle.locator.specs.declared.ListedLocator.{ListedLocator}
use Rattle.slot.specs.Found.{slot_count}
use Rattle.reply_form.specs.Replies.{check_size}
use Rattle.association.specs.Form.{id_limit}
use Rattle.association.specs.Start.{unusable_spi}

-- what the reply of eight checks takes
abbrev pub reply_room : ℕ
reply_room = slot_count * check_size

-- refusal 1: "reply buffer below 384 bytes"
abbrev pub refusal1 : (room : ℕ) → Bool
refusal1 room = ltb room reply_room

-- refusal 2: "not marked authentic"
abbrev pub refusal2 : (authentic : Bool) → Bool
refusal2 authentic = not authentic

-- refusal 7: "Update ID below the highest seen"
abbrev pub refusal7 : (id : ℕ) → Option ℕ → Bool
refusal7 id None = false
refusal7 id (Some h) = ltb id h

-- "equal: Repeated", and nothing after it is tried
abbrev pub repeats : (id : ℕ) → Option ℕ → Bool
repeats id None = false
repeats id (Some h) = eqb id h

-- "a type 1 locator's SPI not NEW SPI"
abbrev pub other_spi : (new : ℕ) → ListedLocator → Bool
other_spi new e = eqb e.kind spi_type && not (eqb e.spi new)

-- refusal 9: "a Move's OLD SPI not the outbound SPI, NEW SPI 0, or a type 1 locator's SPI not NEW SPI"
abbrev pub refusal9 : (outbound old new : ℕ) → List ListedLocator → Bool
refusal9 outbound old new set = not (eqb old outbound) || (unusable_spi new || list_any (other_spi new) set)

-- refusal 11: "next own ID + new checks over 2^32"
abbrev pub refusal11 : (next checks : ℕ) → Bool
refusal11 next checks = ltb id_limit (next + checks)

-- "the same opaque bytes, up to 64 of them"
abbrev pub opaque_limit : ℕ
opaque_limit = 64

-- refusal 22: "Opaque over 64"
abbrev pub refusal22 : (opaque : List ℕ) → Bool
refusal22 opaque = ltb opaque_limit (length opaque)
