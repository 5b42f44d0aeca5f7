-- The premises of both laws can be met: an announcement of three locators that is sent with parameters after it, and a packet in hex, copied by hand from the
-- layouts of RFC 7401, 7402 and 8046, in which the three parameters are no neighbours.
use Rattle.std.specs.Prelude.{ℕ, zero, suc, ◌<◌, ◌≡◌, refl, Bool, true, false, cond, List, [], ◌∷◌, ◌++◌, map, leb, get_or, replicate, take}
use Prim.Native.String.{String}
use Rattle.std.proofs.Common.{arith, leb-false}
use Rattle.octets.specs.ExamplesHex.{hex}
use Rattle.octets.specs.Records.{records}
use Rattle.octets.specs.Written.{bytes_of, Octets}
use Rattle.address.specs.declared.Address.{Address}
use Rattle.address.specs.Rules.{legal}
use Rattle.parameter.specs.Types.{refused_type, wrong_length}
use Rattle.parameter.specs.Written.{parameter_bytes}
use Rattle.frame.specs.Parameters.{falls}
use Rattle.frame.specs.Survey.{occurs}
use Rattle.locator.specs.Locators.{ill_form}
use Rattle.locator_set.specs.Sets.{twice, marks, blank, listed_in}
use Rattle.slot.specs.Clashes.{clash}
use Rattle.packet.specs.declared.EchoResponse.TheVariants.{Absent}
use Rattle.locator_set.specs.declared.LocatorSet.{LocatorSet}
use Rattle.announcement.specs.Listed.{as_listed}
use Rattle.packet.specs.declared.MoveFields.{MoveFields}
use Rattle.packet.specs.Kinds.{is_move}
use Rattle.packet.specs.Readings.{kind_of, reading_of}
use Rattle.association.specs.declared.Association.{Association}
use Rattle.association.specs.Form.{refusal0}
use Rattle.association.specs.Start.{started}
use Rattle.announcement.specs.declared.OwnLocator.{OwnLocator}
use Rattle.announcement.specs.Written.{entry_bytes, set_body, announcement_bytes}
use Rattle.announcement.specs.Announcements.{handled}
use Rattle.announcement.specs.Sized.{AllSized}
use Rattle.round_trip.specs.Each.{Each}
use Rattle.round_trip.specs.Wire.{WireParameter, wire_bytes, wires_bytes, Tail}
use Rattle.round_trip.specs.Read.{sent_packet, Sent}
use Rattle.round_trip.specs.Written.{own_of, three_of, Received}

-- 2001:db8::1, 198.51.100.7 and 2001:db8::2
abbrev first : Address
first = record { high = 0x20010db800000000; low = 1 }

abbrev second : Address
second = record { high = 0; low = 0xffffc6336407 }

abbrev third : Address
third = record { high = 0x20010db800000000; low = 2 }

-- a newly started association with inbound SPI 0x1001
abbrev ours : Association
ours = started 100 0x2001 0x1001 first 60

-- the first of type 0 for both kinds of traffic, P and 60 seconds; the others of type 1 for data and 2^24 + 2 seconds, and for signalling and 300 seconds
abbrev entries : List OwnLocator
entries =
    record { address = first; lifetime = 60; kind = 0; traffic = 0; preferred = true }
    ∷ record { address = second; lifetime = 0x1000002; kind = 1; traffic = 2; preferred = false }
    ∷ record { address = third; lifetime = 300; kind = 1; traffic = 1; preferred = false }
    ∷ map own_of (replicate 5 blank)

-- the header of a packet of this many units of eight bytes after the first
abbrev header : (units : String) → List ℕ
header units = hex "3b" ++ (hex units ++ (hex "1021" ++ replicate 36 0))

-- HOST_ID of three bytes, HIP_MAC and HIP_SIGNATURE of four: the padding of the first is no zero
abbrev following : List WireParameter
following = record { kind = 705; body = 1 ∷ 2 ∷ 3 ∷ []; padding = 255 ∷ [] } ∷ record { kind = 61505; body = 1 ∷ 2 ∷ 3 ∷ 4 ∷ []; padding = [] }
    ∷ record { kind = 61697; body = 5 ∷ 6 ∷ 7 ∷ 8 ∷ []; padding = [] } ∷ []

-- what we write, and the parameters that follow
abbrev written : List ℕ
written =
    hex "0041000c 00000203 00001001 00001002"
    ++ (hex "00c10050 00000401 0000003c 20010db8 00000000 00000000 00000001"
    ++ (hex "02010500 01000002 00001002 00000000 00000000 0000ffff c6336407"
    ++ (hex "01010500 0000012c 00001002 20010db8 00000000 00000000 00000002 00000000"
    ++ hex "01810004 00000000")))

sent_bytes_lem : sent_packet ours entries 3 0x1002 0x203 112 (header "15") following ≡ header "15" ++ (written ++ hex "02c10003 010203ff f0410004 01020304 f1010004 05060708")
unfolding handled announcement_bytes set_body entry_bytes parameter_bytes bytes_of wires_bytes wire_bytes refusal0 clash records ill_form legal twice marks
sent_bytes_lem = refl

sent : Sent ours entries 3 0x1002 0x203 112 (header "15") following
unfolding handled announcement_bytes set_body entry_bytes parameter_bytes bytes_of wires_bytes wire_bytes refusal0 clash records ill_form legal twice marks AllSized Tail
sent = record {
  accepted = refl;
  sized = omega arith;
  old = omega arith;
  new = omega arith;
  index = omega arith;
  long = refl;
  rule = refl;
  follow = (
    record { whole = record { type = omega arith; len = omega arith; padding = refl }; after = omega arith; type = refl },
    (
      record { whole = record { type = omega arith; len = omega arith; padding = refl }; after = omega arith; type = refl },
      (record { whole = record { type = omega arith; len = omega arith; padding = refl }; after = omega arith; type = refl }, tt),
    ),
  );
}

-- a packet with an unknown even type and an ACK between and after the three
abbrev packet : List ℕ
packet =
    header "14"
    ++ (hex "0041000c 00000203 00001001 00001002"
    ++ (hex "00800004 01020304"
    ++ (hex "00c10050 00000401 0000003c 20010db8 00000000 00000000 00000001"
    ++ (hex "02010500 01000002 00001002 00000000 00000000 0000ffff c6336407"
    ++ (hex "01010500 0000012c 00001002 20010db8 00000000 00000000 00000002 00000000"
    ++ (hex "01810004 00000000" ++ hex "01c10004 00000009"))))))

-- what is read of it
abbrev fields : MoveFields
fields = record { keymat = 0x203; old = 0x1001; new = 0x1002; id = 0; echo = Absent }

-- and the set
abbrev read : LocatorSet
read = record { listed = map (as_listed 0x1002) (take 3 entries) ++ replicate 5 blank; count = 3 }

-- the set holds three, and none of the blanks after them
listed : listed_in read ≡ map (as_listed 0x1002) (take 3 entries)
listed = refl

-- its three parameters are what we write for it
three_bytes : three_of packet ≡ written
unfolding records occurs
three_bytes = refl

-- the packet's numbers are bytes
unfoldable small : List ℕ → Bool
small [] = true
small (x ∷ s) = cond (leb 256 x) false (small s)

bytes : (s : List ℕ) → small s ≡ true → Octets s
unfolding small
bytes [] h i = omega arith
bytes (x ∷ s) h i = go (leb 256 x) refl (bytes s) h i
  where
    go : (b : Bool) → leb 256 x ≡ b → (small s ≡ true → Octets s) → cond b false (small s) ≡ true → (i : ℕ) → get_or (x ∷ s) i 0 < 256
    go true e rest h i = let z : ◌≡◌ {A = ℕ} 0 1 = cc in absurd (omega arith)
    go false e rest h zero = leb-false 256 x e
    go false e rest h (suc i) = rest h i

received : Received packet fields read ours 112
unfolding small reading_of kind_of is_move records falls occurs refused_type wrong_length ill_form legal twice marks refusal0 clash Each
received = record {
  octets = bytes packet refl;
  move = refl;
  esp_reserved = refl;
  locators_reserved = (omega arith, (omega arith, (omega arith, tt)));
  padding = (refl, (refl, (refl, (refl, tt))));
  usable = refl;
  spis = (λ e. absurd (omega arith), (λ e. refl, (λ e. refl, tt)));
  unrefused0 = refl;
  inbound = refl;
  next = refl;
  long_enough = omega arith;
}
