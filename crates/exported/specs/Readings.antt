-- What is read of a packet, as numbers.
use Rattle.std.specs.Prelude.{ℕ, ◌+◌, ◌*◌, ◌^◌, Bool, cond, List, [], ◌∷◌, ◌++◌, map, Result, Ok, Err}
use Rattle.octets.specs.Written.{joined}
use Rattle.refusal.specs.declared.Refusal.{Refusal}
use Rattle.refusal.specs.Table.{number_of}
use Rattle.locator.specs.declared.ListedLocator.{ListedLocator}
use Rattle.locator_set.specs.Sets.{listed_in}
use Rattle.packet.specs.declared.EchoResponse.{EchoResponse}
use Rattle.packet.specs.declared.EchoResponse.TheVariants.{Absent, Nonce, OtherLength}
use Rattle.packet.specs.declared.MoveFields.{MoveFields}
use Rattle.packet.specs.declared.CheckFields.{CheckFields}
use Rattle.packet.specs.declared.Message.{Message}
use Rattle.packet.specs.declared.Message.TheVariants.{Move, Reply, PeerCheck}

-- the numbers that the four kinds begin with
abbrev pub move_kind : ℕ
move_kind = 1

abbrev pub reply_kind : ℕ
reply_kind = 2

abbrev pub check_kind : ℕ
check_kind = 3

abbrev pub refused_kind : ℕ
refused_kind = 4

-- true as 1 and false as 0
abbrev pub bit_of : Bool → ℕ
bit_of b = cond b 1 0

-- an echo response: which case it is, and its nonce or 0
abbrev pub echo_numbers : EchoResponse → List ℕ
echo_numbers Absent = 0 ∷ 0 ∷ []
echo_numbers (Nonce n) = 1 ∷ n ∷ []
echo_numbers OtherLength = 2 ∷ 0 ∷ []

-- fields that share a number stand so far up in it
abbrev pub spi_weight : ℕ
spi_weight = 2 ^ 32

abbrev pub traffic_weight : ℕ
traffic_weight = 512

abbrev pub type_weight : ℕ
type_weight = 2

-- a listed locator: both halves of its address, its SPI and lifetime, its traffic type, locator type and P
abbrev pub locator_numbers : ListedLocator → List ℕ
locator_numbers l =
    l.address.high
    ∷ l.address.low
    ∷ (l.spi * spi_weight + l.lifetime)
    ∷ (l.traffic * traffic_weight + l.kind * type_weight + bit_of l.preferred)
    ∷ []

-- listed locators, in their order
abbrev pub listed_numbers : List ListedLocator → List ℕ
listed_numbers listed = joined (map locator_numbers listed)

-- a Move that lists so many locators, without them
abbrev pub move_numbers : MoveFields → (count : ℕ) → List ℕ
move_numbers m count = move_kind ∷ m.keymat ∷ m.old ∷ m.new ∷ m.id ∷ count ∷ echo_numbers m.echo

-- a Check
abbrev pub check_numbers : CheckFields → List ℕ
check_numbers c = check_kind ∷ c.id ∷ c.body ∷ c.len ∷ []

-- a message, a Move with the locators that it lists
abbrev pub message_numbers : Message → List ℕ
message_numbers (Move m set) = move_numbers m set.count ++ listed_numbers (listed_in set)
message_numbers (Reply echo) = reply_kind ∷ echo_numbers echo
message_numbers (PeerCheck c) = check_numbers c

-- all that is read of a packet
unfoldable pub reading_numbers : Result Message Refusal → List ℕ
reading_numbers (Ok message) = message_numbers message
reading_numbers (Err why) = refused_kind ∷ number_of why ∷ []
