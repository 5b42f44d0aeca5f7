-- Worked examples, computed from the definitions: entries and a whole announcement in hex, each refusal at its edges, their order, and whole answers.
use Rattle.std.specs.Prelude.{ℕ, ◌+◌, ◌≡◌, refl, Bool, true, false, List, [], ◌∷◌, ◌++◌, map, length, replicate, Err, Ok, Option, Some}
use Rattle.std.proofs.Common.{arith}
use Rattle.octets.specs.ExamplesHex.{hex}
use Rattle.octets.specs.Records.{records}
use Rattle.octets.specs.Written.{bytes_of}
use Rattle.refusal.specs.declared.Refusal.TheVariants.{BadAssociation, BadListSize, BadList, BadInboundSpi, NoUpdateIdLeft, ShortBuffer}
use Rattle.address.specs.Rules.{legal}
use Rattle.parameter.specs.Written.{parameter_bytes}
use Rattle.locator.specs.Locators.{ill_form}
use Rattle.locator_set.specs.Sets.{twice, marks}
use Rattle.slot.specs.declared.Status.TheVariants.{Active}
use Rattle.slot.specs.declared.Slot.{Slot}
use Rattle.slot.specs.Found.{empty_slot, slot_of}
use Rattle.slot.specs.Clashes.{clash}
use Rattle.association.specs.declared.Association.{Association}
use Rattle.association.specs.Form.{refusal0}
use Rattle.announcement.specs.declared.OwnLocator.{OwnLocator}
use Rattle.announcement.specs.Written.{entry_bytes, set_body, announcement_bytes}
use Rattle.announcement.specs.Announcements.{refusal17, refusal18, refusal19, refusal20, refusal21, after_announcement, Announced, handled, announcement_of, buffer_after}
use Rattle.announcement.specs.Listed.{as_listed, AllKnown}
use Rattle.announcement.specs.Sized.{Sized, AllSized}

-- ---- bytes
-- an entry for 2001:db8::n
abbrev own : (n traffic kind lifetime : ℕ) → (preferred : Bool) → OwnLocator
own n traffic kind lifetime preferred =
    record { address = record { high = 0x20010db800000000; low = n }; lifetime = lifetime; kind = kind; traffic = traffic; preferred = preferred }

-- type 0: both kinds of traffic, 60 seconds, P. Type 1: signalling, 300 seconds, not P
abbrev first : OwnLocator
first = own 1 0 0 60 true

abbrev second : OwnLocator
second = own 2 1 1 300 false

-- "traffic type .., locator type, length in 4-byte units, 7 reserved bits and P, lifetime 32 bits, then the locator"; the SPI is that of the call
entries : (entry_bytes 0x1002 first ≡ hex "00000401 0000003c 20010db8 00000000 00000000 00000001")
    × (entry_bytes 0x1002 second ≡ hex "01010500 0000012c 00001002 20010db8 00000000 00000000 00000002")
    × (entry_bytes 0xa1b2c3d4 (own 0x0102030405060708 2 1 0x0a0b0c0d true) ≡ hex "02010501 0a0b0c0d a1b2c3d4 20010db8 00000000 01020304 05060708")
unfolding entry_bytes bytes_of
entries = (refl, refl, refl)

-- one after another
set : (set_body 0x1002 (first ∷ second ∷ [])
    ≡ hex "00000401 0000003c 20010db8 00000000 00000000 00000001 01010500 0000012c 00001002 20010db8 00000000 00000000 00000002")
    × (set_body 0x1002 [] ≡ [])
unfolding set_body entry_bytes bytes_of
set = (refl, refl)

-- "Reading what we wrote gives back the list", with the SPI of a type 1 entry
listed : map (as_listed 0x1002) (own 1 2 0 60 true ∷ own 2 2 1 300 false ∷ [])
    ≡ record { address = record { high = 0x20010db800000000; low = 1 }; lifetime = 60; spi = 0; traffic = 2; kind = 0; preferred = true }
    ∷ record { address = record { high = 0x20010db800000000; low = 2 }; lifetime = 300; spi = 0x1002; traffic = 2; kind = 1; preferred = false }
    ∷ []
listed = refl

-- ---- premises of laws
-- every entry of a known type: 0 and 1, and not 2
known : AllKnown (own 1 2 0 60 true ∷ own 2 2 1 300 false ∷ []) × (AllKnown (own 1 2 0 60 true ∷ own 2 1 2 300 false ∷ []) → ⊥)
unfolding AllKnown
known = ((omega arith, (omega arith, tt)), λ k. omega (arith, k.1.0))

-- an entry by its numbers
abbrev numbers : (high low lifetime kind traffic : ℕ) → OwnLocator
numbers high low lifetime kind traffic =
    record { address = record { high = high; low = low }; lifetime = lifetime; kind = kind; traffic = traffic; preferred = false }

-- the greatest numbers of their widths, and each of them one greater
sized : AllSized (numbers 0xffffffffffffffff 0xffffffffffffffff 0xffffffff 0xff 0xff ∷ numbers 0 0 0 0 0 ∷ [])
    × (AllSized (numbers 0 0 0 0 0 ∷ numbers 0x10000000000000000 0 0 0 0 ∷ []) → ⊥)
    × (Sized (numbers 0 0x10000000000000000 0 0 0) → ⊥)
    × (Sized (numbers 0 0 0x100000000 0 0) → ⊥)
    × (Sized (numbers 0 0 0 0x100 0) → ⊥)
    × (Sized (numbers 0 0 0 0 0x100) → ⊥)
unfolding AllSized
sized = (
  (
    record { high = omega arith; low = omega arith; lifetime = omega arith; kind = omega arith; traffic = omega arith },
    (record { high = omega arith; low = omega arith; lifetime = omega arith; kind = omega arith; traffic = omega arith }, tt),
  ),
  λ z. omega (arith, z.1.0.high),
  λ z. omega (arith, z.low),
  λ z. omega (arith, z.lifetime),
  λ z. omega (arith, z.kind),
  λ z. omega (arith, z.traffic),
)

-- ---- whole announcements
-- an association by its fields
abbrev holding : (outbound inbound time aged credit : ℕ) → Option ℕ → (next : ℕ) → Option ℕ → List Slot → Association
holding outbound inbound time aged credit peer next preferred slots = record {
  outbound = outbound;
  inbound = inbound;
  time = time;
  aged = aged;
  credit = credit;
  peer = peer;
  next = next;
  preferred = preferred;
  slots = slots;
}

-- one at time 100, with these inbound SPI, next own Update ID and preferred slot
abbrev with : (inbound next preferred : ℕ) → Association
with inbound next preferred =
    holding 0x2001 inbound 100 97 500 (Some 7) next (Some preferred)
    (slot_of (record { address = record { high = 1; low = 1 }; traffic = 0; expiry = 130; status = Active }) ∷ replicate 7 empty_slot)

-- the inbound SPI 0x1001 and the next own Update ID 3
abbrev found : Association
found = with 0x1001 3 0

-- "write the ESP_INFO, LOCATOR_SET and SEQ of a Move": 56 bytes for one address, and 80 for two of which one has an SPI
abbrev one_address : List ℕ
one_address =
    hex "0041000c 00000203 00001001 00001002"
    ++ (hex "00c10018 00000401 0000003c 20010db8 00000000 00000000 00000001 00000000" ++ hex "01810004 00000003")

abbrev two_addresses : List ℕ
two_addresses =
    hex "0041000c 00000203 00001001 00001002"
    ++ (hex "00c10034 00000401 0000003c 20010db8 00000000 00000000 00000001"
    ++ (hex "01010500 0000012c 00001002 20010db8 00000000 00000000 00000002" ++ hex "01810004 00000003"))

written : (announcement_bytes found (first ∷ []) 0x1002 0x0203 ≡ one_address)
    × (announcement_bytes found (first ∷ second ∷ []) 0x1002 0x0203 ≡ two_addresses)
    × (map (λ (bytes : List ℕ). length bytes) (one_address ∷ two_addresses ∷ []) ≡ 56 ∷ 80 ∷ [])
unfolding announcement_bytes set_body entry_bytes parameter_bytes bytes_of
written = (refl, refl, refl)

-- ---- single refusals
-- 17: "list outside 1 to 8". 19: "SPI 0". 20: "own IDs used up". 21: "buffer below what is to be written"
edges : (map refusal17 (0 ∷ 1 ∷ 8 ∷ 9 ∷ []) ≡ true ∷ false ∷ false ∷ true ∷ [])
    × (map refusal19 (0 ∷ 1 ∷ 4294967295 ∷ []) ≡ true ∷ false ∷ false ∷ [])
    × (map refusal20 (0 ∷ 4294967295 ∷ 4294967296 ∷ []) ≡ false ∷ false ∷ true ∷ [])
    × (map (λ (room : ℕ). refusal21 room one_address) (0 ∷ 55 ∷ 56 ∷ 57 ∷ []) ≡ true ∷ true ∷ false ∷ false ∷ [])
edges = (refl, refl, refl, refl)

-- an entry for the IPv4 address 224.0.0.1, which is not legal
abbrev multicast : OwnLocator
multicast = record { address = record { high = 0; low = 0xffffe0000001 }; lifetime = 60; kind = 0; traffic = 0; preferred = false }

-- 18: "list row 6 would refuse": "set empty", "unknown traffic or locator type, .. lifetime 0, address not legal, an address twice, P twice"
refused_lists : map (refusal18 0x1002)
    ([]
    ∷ (own 1 3 0 60 false ∷ [])
    ∷ (own 1 0 2 60 false ∷ [])
    ∷ (own 1 0 0 0 false ∷ [])
    ∷ (multicast ∷ [])
    ∷ (first ∷ own 2 3 1 60 false ∷ [])
    ∷ (own 1 0 0 60 false ∷ own 2 0 1 60 false ∷ own 1 1 1 30 false ∷ [])
    ∷ (own 1 0 0 60 true ∷ own 2 0 0 60 false ∷ own 3 0 1 60 true ∷ [])
    ∷ [])
    ≡ replicate 8 true
unfolding set_body entry_bytes bytes_of records legal ill_form twice marks
refused_lists = refl

-- lists that it would not: of one, two and eight entries, for each kind of traffic, of both types, with P and without
accepted_lists : map (refusal18 0x1002)
    ((first ∷ [])
    ∷ (second ∷ first ∷ [])
    ∷ (own 1 2 1 1 false ∷ own 2 1 0 4294967295 false ∷ [])
    ∷ map (λ (n : ℕ). own n 0 0 60 false) (1 ∷ 2 ∷ 3 ∷ 4 ∷ 5 ∷ 6 ∷ 7 ∷ 8 ∷ [])
    ∷ [])
    ≡ replicate 4 false
unfolding set_body entry_bytes bytes_of records legal ill_form twice marks
accepted_lists = refl

-- ---- the association afterwards
-- "OLD SPI is the inbound SPI, which becomes the new one; the Update ID is the next own one, which rises by one.": whatever stands in each field
after : (outbound inbound time aged credit next new : ℕ) (peer : Option ℕ) (preferred : Option ℕ) (slots : List Slot) →
    after_announcement (holding outbound inbound time aged credit peer next preferred slots) new
    ≡ holding outbound new time aged credit peer (next + 1) preferred slots
unfolding after_announcement
after outbound inbound time aged credit next new peer preferred slots = refl

-- ---- calls
-- eight entries: two that may be announced, and six of traffic type 3
abbrev list : List OwnLocator
list = first ∷ second ∷ replicate 6 (own 3 3 0 60 false)

-- the outcome alone, where each call also earns what comes later: 0, 17, 17, 18, 19, 20, 21, and none
order : map (λ (h : Announced). h.outcome)
    (handled (with 0x1001 4294967296 8) list 0 0 0 0
    ∷ handled (with 0x1001 4294967296 0) list 0 0 0 0
    ∷ handled (with 0x1001 4294967296 0) list 9 0 0 0
    ∷ handled (with 0x1001 4294967296 0) list 3 0 0 0
    ∷ handled (with 0x1001 4294967296 0) list 2 0 0 0
    ∷ handled (with 0x1001 4294967296 0) list 2 0x1002 0 0
    ∷ handled (with 0x1001 4294967295 0) list 2 0x1002 0 79
    ∷ handled (with 0x1001 4294967295 0) list 2 0x1002 0 80
    ∷ [])
    ≡ Err BadAssociation
    ∷ Err BadListSize
    ∷ Err BadListSize
    ∷ Err BadList
    ∷ Err BadInboundSpi
    ∷ Err NoUpdateIdLeft
    ∷ Err ShortBuffer
    ∷ (Ok tt)
    ∷ []
unfolding handled refusal0 clash announcement_bytes set_body entry_bytes parameter_bytes bytes_of records legal ill_form twice marks after_announcement
order = refl

-- a buffer of this length
abbrev buffer : (room : ℕ) → List ℕ
buffer room = replicate room 0xff

-- the whole of an answer: 56 bytes written, the inbound SPI 0x1002 and the next own Update ID 4; "Bytes past the reply are untouched."
answered : (announcement_of found list 1 0x1002 0x0203 (buffer 58)
    ≡ record { outcome = (Ok tt); written = 56; association = with 0x1002 4 0 })
    × (buffer_after found list 1 0x1002 0x0203 (buffer 58) ≡ one_address ++ hex "ffff")
    × (buffer_after found list 2 0x1002 0x0203 (buffer 80) ≡ two_addresses)
unfolding handled refusal0 clash announcement_bytes set_body entry_bytes parameter_bytes bytes_of records legal ill_form twice marks after_announcement
answered = (refl, refl, refl)

-- "A refusal returns its number and zero reply bytes; association and buffer are as lent.": refusals 21, 18 and 17
declined : (announcement_of found list 1 0x1002 0x0203 (buffer 55) ≡ record { outcome = Err ShortBuffer; written = 0; association = found })
    × (announcement_of found list 3 0x1002 0x0203 (buffer 300) ≡ record { outcome = Err BadList; written = 0; association = found })
    × (announcement_of found list 9 0x1002 0x0203 (buffer 300) ≡ record { outcome = Err BadListSize; written = 0; association = found })
    × (buffer_after found list 1 0x1002 0x0203 (buffer 55) ≡ buffer 55)
unfolding handled refusal0 clash announcement_bytes set_body entry_bytes parameter_bytes bytes_of records legal ill_form twice marks after_announcement
declined = (refl, refl, refl, refl)
