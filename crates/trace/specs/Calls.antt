-- The calls of a trace. A record's first section has numbers: which call it is, and then the call's arguments in the order in which document 01 names
-- them; a message has the host's mark and the length of its reply buffer, a tick the length of its buffer, an announcement the length of its buffer and then its list. The second section
-- is a message's packet, a start's address or the addresses of an announcement's list, the third a message's nonces.
use Rattle.std.specs.Prelude.{ℕ, ◌+◌, ◌*◌, Bool, cond, ◌&&◌, Option, None, Some, List, [], ◌∷◌, map, leb, eqb}
use Rattle.address.specs.Rules.{address_at}
use Rattle.reply_form.specs.Replies.{nonce_count}
use Rattle.entries.specs.Numbers.{number_size, address_size, number_of, is_narrow}
use Rattle.entries.specs.Entries.{entry_count, entry_place, are_entries}
use Rattle.sections.specs.declared.Section.{Section}
use Rattle.sections.specs.declared.Record.{Record}
use Rattle.sections.specs.Records.{size_of}
use Rattle.trace.specs.declared.StartCall.{StartCall}
use Rattle.trace.specs.declared.MessageCall.{MessageCall}
use Rattle.trace.specs.declared.TickCall.{TickCall}
use Rattle.trace.specs.declared.AnnounceCall.{AnnounceCall}
use Rattle.trace.specs.declared.Call.{Call}
use Rattle.trace.specs.declared.Call.TheVariants.{Start, Message, Arrival, Send, Tick, Announce}

-- the first number: which call
abbrev pub start_number : ℕ
start_number = 0

abbrev pub message_number : ℕ
message_number = 1

abbrev pub arrival_number : ℕ
arrival_number = 2

abbrev pub send_number : ℕ
send_number = 3

abbrev pub tick_number : ℕ
tick_number = 4

abbrev pub announce_number : ℕ
announce_number = 5

-- the sections have these sizes
abbrev pub has_sizes : Record → (numbers body nonces : ℕ) → Bool
has_sizes r numbers body nonces = eqb (size_of r.numbers) numbers && (eqb (size_of r.body) body && eqb (size_of r.nonces) nonces)

-- a start: which call, time, outbound SPI, inbound SPI and lifetime, with the 16 bytes of the address
unfoldable pub is_start : List ℕ → Record → Bool
is_start s r =
    has_sizes r (5 * number_size) address_size 0
    && (eqb (number_of s r.numbers 0) start_number
    && (is_narrow (number_of s r.numbers 2) && (is_narrow (number_of s r.numbers 3) && is_narrow (number_of s r.numbers 4))))

-- what a start is given
abbrev pub start_of : List ℕ → Record → StartCall
start_of s r = record {
  time = number_of s r.numbers 1;
  outbound = number_of s r.numbers 2;
  inbound = number_of s r.numbers 3;
  lifetime = number_of s r.numbers 4;
  address = address_at s r.body.start;
}

-- the longest buffer that a call is lent
abbrev pub room_limit : ℕ
room_limit = 65535

-- a message: which call, the mark as 1 or 0, and the length of the reply buffer, with a packet of any size and the nonces
unfoldable pub is_message : List ℕ → Record → Bool
is_message s r =
    has_sizes r (3 * number_size) (size_of r.body) (nonce_count * number_size)
    && (eqb (number_of s r.numbers 0) message_number && (leb (number_of s r.numbers 1) 1 && leb (number_of s r.numbers 2) room_limit))

-- what a message is given besides its packet and nonces
abbrev pub message_of : List ℕ → Record → MessageCall
message_of s r = record { authentic = eqb (number_of s r.numbers 1) 1; room = number_of s r.numbers 2 }

-- ---- an announcement
-- the sizes: four numbers besides the entries' four each, and an address for each entry
abbrev pub has_list_sizes : Record → Bool
has_list_sizes r = has_sizes r ((4 + 4 * entry_count r) * number_size) (address_size * entry_count r) 0

-- an announcement: which call, the length of the buffer, the entries of the list, the new inbound SPI and the KEYMAT Index, with 16 bytes for each entry's
-- address. Every entry is judged, also those that the call's array has no room for
unfoldable pub is_announcement : List ℕ → Record → Bool
is_announcement s r =
    has_list_sizes r
    && (eqb (number_of s r.numbers 0) announce_number
    && (leb (number_of s r.numbers 1) room_limit
    && (is_narrow (number_of s r.numbers (entry_place (entry_count r)))
    && (leb (number_of s r.numbers (entry_place (entry_count r) + 1)) 65535 && are_entries s r (entry_count r)))))

-- what an announcement is given besides its list
abbrev pub announcement_of : List ℕ → Record → AnnounceCall
announcement_of s r = record {
  room = number_of s r.numbers 1;
  count = entry_count r;
  inbound = number_of s r.numbers (entry_place (entry_count r));
  keymat = number_of s r.numbers (entry_place (entry_count r) + 1);
}

-- ---- a tick
-- a tick: which call, the time, and the length of the buffer
unfoldable pub is_tick : List ℕ → Record → Bool
is_tick s r = has_sizes r (3 * number_size) 0 0 && (eqb (number_of s r.numbers 0) tick_number && leb (number_of s r.numbers 2) room_limit)

-- what a tick is given
abbrev pub tick_of : List ℕ → Record → TickCall
tick_of s r = record { time = number_of s r.numbers 1; room = number_of s r.numbers 2 }

-- ---- any call
-- a call with one argument, a size, and no bytes
unfoldable pub plain_of : (which argument : ℕ) → Option Call
plain_of which argument =
    cond (eqb which arrival_number) (Some (Arrival argument))
    (cond (eqb which send_number) (Some (Send argument)) None)

-- the call that a record stands for, or none: its sections do not fit any
unfoldable pub call_of : List ℕ → Record → Option Call
call_of s r =
    cond (is_start s r) (Some (Start (start_of s r)))
    (cond (is_message s r) (Some (Message (message_of s r)))
    (cond (is_tick s r) (Some (Tick (tick_of s r)))
    (cond (is_announcement s r) (Some (Announce (announcement_of s r)))
    (cond (has_sizes r (2 * number_size) 0 0) (plain_of (number_of s r.numbers 0) (number_of s r.numbers 1)) None))))

-- the nonces of a message
abbrev pub nonces_of : List ℕ → Section → List ℕ
nonces_of s section = map (number_of s section) (0 ∷ 1 ∷ 2 ∷ 3 ∷ 4 ∷ 5 ∷ 6 ∷ 7 ∷ [])
