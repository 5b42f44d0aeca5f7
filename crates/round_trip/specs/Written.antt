-- Law 2, order 1's "Writing what was read .. gives the same bytes for those three parameters", in full, as the comments below quote it: for every packet that reads as
-- a Move, where ESP_INFO's reserved bits, every locator's reserved bits and the set's padding are zero, NEW SPI is one we may announce and each type 1 SPI equals
-- it: announcing the list read, with the NEW SPI and KEYMAT Index read, from any association that refusal 0 does not refuse whose inbound SPI and next own ID are
-- the OLD SPI and ID read, into any buffer long enough, is accepted and writes the packet's three parameters, one after another (they need not be neighbours in
-- the packet). The claim and its premises; `proofs/Written.antt` proves it.
use Rattle.std.specs.Prelude.{ℕ, ◌+◌, ◌-◌, ◌<◌, ◌≤◌, ◌≡◌, false, List, ◌++◌, map, length, get_or, take, drop, Ok}
use Rattle.octets.specs.Numbers.{number_at}
use Rattle.octets.specs.Written.{Octets}
use Rattle.parameter.specs.Parameters.{takes}
use Rattle.parameter.specs.Written.{head_size}
use Rattle.frame.specs.declared.Occurrence.{Occurrence}
use Rattle.frame.specs.Survey.{survey_of}
use Rattle.locator.specs.declared.ListedLocator.{ListedLocator}
use Rattle.locator.specs.Locators.{spi_type, places}
use Rattle.locator_set.specs.declared.LocatorSet.{LocatorSet}
use Rattle.packet.specs.declared.MoveFields.{MoveFields}
use Rattle.packet.specs.declared.Message.TheVariants.{Move}
use Rattle.packet.specs.Readings.{set_bytes, reading_of}
use Rattle.association.specs.declared.Association.{Association}
use Rattle.association.specs.Form.{refusal0}
use Rattle.association.specs.Start.{unusable_spi}
use Rattle.announcement.specs.declared.OwnLocator.{OwnLocator}
use Rattle.announcement.specs.Announcements.{Announced, after_announcement, handled}
use Rattle.round_trip.specs.Each.{Each}

-- ---- the bytes of a packet's parameters
-- all bytes of the first parameter of a type: type and length, which stand before its L bytes, these, and the padding
abbrev pub whole_of : List ℕ → Occurrence → List ℕ
whole_of s seen = take (takes seen.len) (drop (seen.body - head_size) s)

-- its padding, which stands after its L bytes
abbrev pub padding_of : List ℕ → Occurrence → List ℕ
padding_of s seen = take (takes seen.len - (head_size + seen.len)) (drop (seen.body + seen.len) s)

-- "the packet's three parameters, one after another (they need not be neighbours in the packet)"
abbrev pub three_of : List ℕ → List ℕ
three_of s = whole_of s (survey_of s).esp ++ (whole_of s (survey_of s).set ++ whole_of s (survey_of s).seq)

-- the byte of a locator that has its "7 reserved bits and P" holds P alone
abbrev pub Unreserved : List ℕ → ℕ → Type 0
Unreserved set at = get_or set (at + 3) 0 < 2

-- ---- the list read, as a list that we announce
-- an entry of it: its SPI is the one that is announced
abbrev pub own_of : ListedLocator → OwnLocator
own_of l = record { address = l.address; lifetime = l.lifetime; kind = l.kind; traffic = l.traffic; preferred = l.preferred }

-- its eight entries, of which the first so many as the set counts are announced
abbrev pub own_list : LocatorSet → List OwnLocator
own_list set = map own_of set.listed

-- ---- the law
-- announcing what was read, "with the NEW SPI and KEYMAT Index read"
abbrev pub announced_again : MoveFields → LocatorSet → Association → (room : ℕ) → Announced
announced_again m set a room = handled a (own_list set) set.count m.new m.keymat room

-- the premises: of a packet s, what is read of it, an association and the length of a buffer
pub record Received (s : List ℕ) (m : MoveFields) (set : LocatorSet) (a : Association) (room : ℕ) : Type 0 where
  pub octets : Octets s
  -- "every packet that reads as a Move"
  pub move : reading_of s ≡ Ok (Move m set)
  -- "where ESP_INFO's reserved bits, every locator's reserved bits and the set's padding are zero"
  pub esp_reserved : number_at s (survey_of s).esp.body 2 ≡ 0
  pub locators_reserved : Each (Unreserved (set_bytes s (survey_of s))) (places (set_bytes s (survey_of s)))
  pub padding : Each (λ (byte : ℕ). byte ≡ 0) (padding_of s (survey_of s).set)
  -- "NEW SPI is one we may announce"
  pub usable : unusable_spi m.new ≡ false
  -- "and each type 1 SPI equals it"
  pub spis : Each (λ (l : ListedLocator). l.kind ≡ spi_type → l.spi ≡ m.new) (take set.count set.listed)
  -- "from any association that refusal 0 does not refuse"
  pub unrefused0 : refusal0 a ≡ false
  -- "whose inbound SPI and next own ID are the OLD SPI and ID read"
  pub inbound : a.inbound ≡ m.old
  pub next : a.next ≡ m.id
  -- "into any buffer long enough"
  pub long_enough : length (three_of s) ≤ room

-- "is accepted and writes the packet's three parameters": and the association is left as by any announcement
abbrev pub written_again : List ℕ → MoveFields → Association → Announced
written_again s m a = record { outcome = (Ok tt); bytes = three_of s; left = after_announcement a m.new }

-- "Writing what was read gives the same bytes."
abbrev pub GivesTheSameBytes : Type 0
GivesTheSameBytes =
    (s : List ℕ) (m : MoveFields) (set : LocatorSet) (a : Association) (room : ℕ) → Received s m set a room → announced_again m set a room ≡ written_again s m a
