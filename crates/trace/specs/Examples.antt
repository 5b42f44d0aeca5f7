-- Worked examples, computed from the definitions: a record of each call, and records whose sections fit none.
use Rattle.std.specs.Prelude.{ℕ, suc, ◌≡◌, refl, true, false, Option, None, Some, List, [], ◌∷◌, ◌++◌, map, replicate}
use Rattle.octets.specs.ExamplesHex.{hex}
use Rattle.octets.specs.Written.{bytes_of}
use Rattle.sections.specs.Records.{record_at}
use Rattle.sections.specs.Written.{section_bytes, record_bytes}
use Rattle.entries.specs.Entries.{is_entry, are_entries}
use Rattle.entries.specs.ExamplesWritten.{numbers, written, place, entry, plain, announcing, places, nine}
use Rattle.trace.specs.declared.Call.{Call}
use Rattle.trace.specs.declared.Call.TheVariants.{Start, Message, Arrival, Send, Tick, Announce}
use Rattle.trace.specs.Calls.{start_number, message_number, arrival_number, send_number, tick_number, announce_number, is_start, room_limit, is_message, is_tick, is_announcement, plain_of, call_of, nonces_of}

-- the call that a record stands for
abbrev read : List ℕ → Option Call
read bytes = call_of bytes (record_at bytes 0)

-- eight nonces
abbrev nonces : List ℕ
nonces = numbers (1 ∷ 2 ∷ 3 ∷ 4 ∷ 5 ∷ 6 ∷ 7 ∷ 8 ∷ [])

-- the last numbers of 32 and of 64 bits
abbrev last32 : ℕ
last32 = 0xffffffff

abbrev last64 : ℕ
last64 = 0xffffffffffffffff

-- records in hex: a start at 100 with the outbound SPI 0x2001, the inbound SPI 0x1001 and a lifetime of 60; a message, marked, with a buffer of 384
-- bytes and a packet of two; an arrival of 1,500; an announcement into 56 bytes of one address, of locator type 1 and traffic type 2, for 60 seconds, with
-- P, the new inbound SPI 0x1002 and the KEYMAT Index 7
in_hex : map read
    ((hex "0028 0000000000000000 0000000000000064 0000000000002001 0000000000001001 000000000000003c"
    ++ (hex "0010 20010db8 00000000 00000000 00000001" ++ hex "0000"))
    ∷ (hex "0018 0000000000000001 0000000000000001 0000000000000180"
    ++ (hex "0002 3b04"
    ++ (hex "0040 0000000000000001 0000000000000002 0000000000000003 0000000000000004"
    ++ hex "0000000000000005 0000000000000006 0000000000000007 0000000000000008")))
    ∷ hex "0010 0000000000000002 00000000000005dc 0000 0000"
    ∷ hex "0018 0000000000000004 0000000000000069 0000000000000140 0000 0000"
    ∷ (hex "0040 0000000000000005 0000000000000038 0000000000000001 0000000000000002 000000000000003c 0000000000000001"
    ++ hex "0000000000001002 0000000000000007 0010 20010db8 00000000 00000000 00000001 0000")
    ∷ [])
    ≡ Some (Start (record {
      time = 100;
      outbound = 0x2001;
      inbound = 0x1001;
      lifetime = 60;
      address = record { high = 0x20010db800000000; low = 1 };
    }))
    ∷ Some (Message (record { authentic = true; room = 384 }))
    ∷ Some (Arrival 1500)
    ∷ Some (Tick (record { time = 105; room = 320 }))
    ∷ Some (Announce (record { room = 56; count = 1; inbound = 0x1002; keymat = 7 }))
    ∷ []
unfolding is_start is_message is_tick is_entry are_entries is_announcement plain_of call_of
in_hex = refl

-- each call, with the ends of its widths
calls : map read
    (written (0 ∷ last64 ∷ last32 ∷ last32 ∷ last32 ∷ []) place []
    ∷ written (1 ∷ 1 ∷ 65535 ∷ []) [] nonces
    ∷ written (1 ∷ 0 ∷ 0 ∷ []) (9 ∷ []) nonces
    ∷ written (2 ∷ 1000 ∷ []) [] []
    ∷ written (3 ∷ last64 ∷ []) [] []
    ∷ written (4 ∷ last64 ∷ 65535 ∷ []) [] []
    ∷ written (4 ∷ 105 ∷ 0 ∷ []) [] []
    ∷ [])
    ≡ Some (Start (record {
      time = last64;
      outbound = last32;
      inbound = last32;
      lifetime = last32;
      address = record { high = 0x20010db800000000; low = 1 };
    }))
    ∷ Some (Message (record { authentic = true; room = 65535 }))
    ∷ Some (Message (record { authentic = false; room = 0 }))
    ∷ Some (Arrival 1000)
    ∷ Some (Send last64)
    ∷ Some (Tick (record { time = last64; room = 65535 }))
    ∷ Some (Tick (record { time = 105; room = 0 }))
    ∷ []
unfolding bytes_of section_bytes record_bytes numbers is_start is_message is_tick is_entry are_entries is_announcement plain_of call_of
calls = refl

-- an unknown call, above and among those of its form; no number; a wrong count of numbers, and of a tick each of the ways; a number over 32 bits, for each of three; an address of
-- 15 and of 17 bytes; a mark over 1; a buffer over 65,535; nonces of 56, 63 and 72 bytes; bytes in a section that the call does not use; the form
-- of another call
malformed : map read
    (written (6 ∷ 1 ∷ []) [] []
    ∷ written [] [] []
    ∷ written (2 ∷ []) [] []
    ∷ written (4 ∷ 1 ∷ []) [] []
    ∷ written (4 ∷ 1 ∷ 320 ∷ 1 ∷ []) [] []
    ∷ written (4 ∷ 1 ∷ 65536 ∷ []) [] []
    ∷ written (4 ∷ 1 ∷ 320 ∷ []) (1 ∷ []) []
    ∷ written (4 ∷ 1 ∷ 320 ∷ []) [] (1 ∷ [])
    ∷ written (3 ∷ 1 ∷ 320 ∷ []) [] []
    ∷ written (0 ∷ 1 ∷ suc last32 ∷ 1 ∷ 1 ∷ []) place []
    ∷ written (0 ∷ 1 ∷ 1 ∷ suc last32 ∷ 1 ∷ []) place []
    ∷ written (0 ∷ 1 ∷ 1 ∷ 1 ∷ suc last32 ∷ []) place []
    ∷ written (0 ∷ 1 ∷ 1 ∷ 1 ∷ 1 ∷ []) (replicate 15 1) []
    ∷ written (0 ∷ 1 ∷ 1 ∷ 1 ∷ 1 ∷ []) (replicate 17 1) []
    ∷ written (1 ∷ 2 ∷ 384 ∷ []) [] nonces
    ∷ written (1 ∷ 1 ∷ 65536 ∷ []) [] nonces
    ∷ written (1 ∷ 1 ∷ 384 ∷ []) [] (replicate 56 1)
    ∷ written (1 ∷ 1 ∷ 384 ∷ []) [] (replicate 63 1)
    ∷ written (1 ∷ 1 ∷ 384 ∷ []) [] (replicate 72 1)
    ∷ written (0 ∷ 1 ∷ 1 ∷ 1 ∷ 1 ∷ []) place (1 ∷ [])
    ∷ written (3 ∷ 1 ∷ []) (1 ∷ []) []
    ∷ written (3 ∷ 1 ∷ []) [] (1 ∷ [])
    ∷ written (0 ∷ 1 ∷ []) [] []
    ∷ written (1 ∷ 1 ∷ []) [] []
    ∷ written (2 ∷ 1 ∷ 384 ∷ []) [] nonces
    ∷ written (0 ∷ 1 ∷ 384 ∷ []) [] nonces
    ∷ written (1 ∷ 1 ∷ 1 ∷ 1 ∷ 1 ∷ []) place []
    ∷ written (0 ∷ 1 ∷ 1 ∷ 1 ∷ []) place []
    ∷ written (0 ∷ 1 ∷ 1 ∷ 1 ∷ 1 ∷ 1 ∷ []) place []
    ∷ [])
    ≡ replicate 29 None
unfolding bytes_of section_bytes record_bytes numbers is_start is_message is_tick is_entry are_entries is_announcement plain_of call_of
malformed = refl

-- the numbers of the calls, and the longest buffer
numbered : start_number ∷ message_number ∷ arrival_number ∷ send_number ∷ tick_number ∷ announce_number ∷ room_limit ∷ []
    ≡ 0 ∷ 1 ∷ 2 ∷ 3 ∷ 4 ∷ 5 ∷ 65535 ∷ []
numbered = refl

-- the nonces, in order
dealt : let bytes = written (1 ∷ 1 ∷ 384 ∷ []) (9 ∷ []) nonces in nonces_of bytes (record_at bytes 0).nonces ≡ 1 ∷ 2 ∷ 3 ∷ 4 ∷ 5 ∷ 6 ∷ 7 ∷ 8 ∷ []
unfolding bytes_of section_bytes record_bytes numbers
dealt = refl

-- ---- announcements
-- none, one, two and nine entries; the ends of the widths
announcements : map read
    (announcing [] []
    ∷ announcing (entry 1 2 60 1) place
    ∷ announcing (plain 2) (places (1 ∷ 2 ∷ []))
    ∷ announcing (plain 9) (places nine)
    ∷ written (5 ∷ 65535 ∷ (entry 255 255 last32 1 ++ (last32 ∷ 65535 ∷ []))) place []
    ∷ written (5 ∷ 0 ∷ (entry 0 0 0 0 ++ (0 ∷ 0 ∷ []))) place []
    ∷ [])
    ≡ Some (Announce (record { room = 256; count = 0; inbound = 0x1002; keymat = 7 }))
    ∷ Some (Announce (record { room = 256; count = 1; inbound = 0x1002; keymat = 7 }))
    ∷ Some (Announce (record { room = 256; count = 2; inbound = 0x1002; keymat = 7 }))
    ∷ Some (Announce (record { room = 256; count = 9; inbound = 0x1002; keymat = 7 }))
    ∷ Some (Announce (record { room = 65535; count = 1; inbound = last32; keymat = 65535 }))
    ∷ Some (Announce (record { room = 0; count = 1; inbound = 0; keymat = 0 }))
    ∷ []
unfolding bytes_of section_bytes record_bytes numbers plain places is_start is_message is_tick is_entry are_entries is_announcement plain_of call_of
announcements = refl

-- a locator type and a traffic type over 255; a lifetime over 32 bits; P over 1, of the first entry, the second and the ninth; a buffer over 65,535; an
-- SPI over 32 bits; a KEYMAT Index over 65,535; an address missing, one too many and one of 15 bytes; a number missing and one too many; a third section;
-- the numbers of a call of one argument; the numbers of an announcement for another call
no_announcements : map read
    (announcing (entry 256 1 60 0) place
    ∷ announcing (entry 0 256 60 0) place
    ∷ announcing (entry 0 1 (suc last32) 0) place
    ∷ announcing (entry 0 1 60 2) place
    ∷ announcing (entry 0 1 60 0 ++ entry 0 1 60 2) (places (1 ∷ 2 ∷ []))
    ∷ announcing (plain 8 ++ entry 0 1 60 2) (places nine)
    ∷ written (5 ∷ 65536 ∷ (entry 0 1 60 0 ++ (0x1002 ∷ 7 ∷ []))) place []
    ∷ written (5 ∷ 256 ∷ (entry 0 1 60 0 ++ (suc last32 ∷ 7 ∷ []))) place []
    ∷ written (5 ∷ 256 ∷ (entry 0 1 60 0 ++ (0x1002 ∷ 65536 ∷ []))) place []
    ∷ announcing (plain 2) place
    ∷ announcing (plain 2) (places (1 ∷ 2 ∷ 3 ∷ []))
    ∷ announcing (plain 1) (replicate 15 1)
    ∷ announcing (0 ∷ 1 ∷ 60 ∷ []) place
    ∷ announcing (entry 0 1 60 0 ++ (0 ∷ [])) place
    ∷ written (5 ∷ 256 ∷ (entry 0 1 60 0 ++ (0x1002 ∷ 7 ∷ []))) place (1 ∷ [])
    ∷ written (5 ∷ 256 ∷ []) [] []
    ∷ written (4 ∷ 256 ∷ (entry 0 1 60 0 ++ (0x1002 ∷ 7 ∷ []))) place []
    ∷ written (6 ∷ 256 ∷ (entry 0 1 60 0 ++ (0x1002 ∷ 7 ∷ []))) place []
    ∷ [])
    ≡ replicate 18 None
unfolding bytes_of section_bytes record_bytes numbers plain places is_start is_message is_tick is_entry are_entries is_announcement plain_of call_of
no_announcements = refl
