-- Worked examples, computed from the definitions.
use Rattle.std.specs.Prelude.{ℕ, ◌≡◌, refl, true, List, [], ◌∷◌, ◌++◌, map, replicate, Err, None, Ok, Result, Some, ⊤}
use Rattle.octets.specs.Written.{bytes_of, joined}
use Rattle.writer.specs.Writes.{written_at}
use Rattle.text.specs.Texts.{hex_of, digits_of, decimal_of, end_of}
use Rattle.refusal.specs.Table.{refusal}
use Rattle.slot.specs.declared.Slot.{Slot}
use Rattle.slot.specs.declared.Status.{Status}
use Rattle.slot.specs.declared.Status.TheVariants.{Unverified, Active, Deprecated}
use Rattle.association.specs.declared.Association.{Association}
use Rattle.clock.specs.declared.TickAnswer.{TickAnswer}
use Rattle.announcement.specs.declared.Announcement.{Announcement}
use Rattle.update.specs.declared.MessageAnswer.{MessageAnswer}
use Rattle.trace.specs.declared.Call.TheVariants.{Start, Message, Arrival, Send, Tick, Announce}
use Rattle.lines.specs.Laid.{laid_out, laid_end, Laid}
use Rattle.lines.specs.Words.{ascii}
use Rattle.lines.specs.State.{address_text, check_text, status_text, locator_text, slot_text, slots_text, peer_text, preference_text, numbers_text, head_text, state_text}
use Rattle.lines.specs.Answers.{name_text, call_text, refusal_text, outcome_text, send_text, counts_text, bytes_text, any_text, reply_text, message_text, tick_text, announcement_text}
use Rattle.refusal.specs.declared.Refusal.{Refusal}
use Rattle.update.specs.declared.Received.{Received}
use Rattle.update.specs.declared.Received.TheVariants.{Moved, Repeated, Replied, Responded}

-- slot n holds 2001:db8::low
abbrev held : ℕ → Status → Slot
held low status = record { holding = Some (record { address = record { high = 0x20010db800000000; low = low }; traffic = 0; expiry = 160; status = status }) }

abbrev empty : Slot
empty = record { holding = None }

-- an association before any message, and one with a check out
abbrev first : Association
first = record {
  outbound = 8193;
  inbound = 4097;
  time = 100;
  aged = 100;
  credit = 0;
  peer = None;
  next = 0;
  preferred = Some 0;
  slots = held 1 Active ∷ empty ∷ [];
}

abbrev second : Association
second = record {
  outbound = 8193;
  inbound = 4097;
  time = 100;
  aged = 95;
  credit = 400;
  peer = Some 7;
  next = 1;
  preferred = None;
  slots = held 1 Deprecated ∷ empty ∷ held 2 (Unverified (record { nonce = 0x0102030405060708; id = 5; issued = 98; resends = 2 })) ∷ [];
}

-- an empty slot has no line
states : map (λ (a : Association). joined (state_text a)) (first ∷ second ∷ [])
    ≡ map ascii
    ("  out 8193 in 4097 time 100 aged 100 credit 0 peer - own 0 preferred 0\n  slot 0 20010db8000000000000000000000001 traffic 0 expiry 160 active\n"
    ∷ "  out 8193 in 4097 time 100 aged 95 credit 400 peer 7 own 1 preferred -\n  slot 0 20010db8000000000000000000000001 traffic 0 expiry 160 deprecated\n  slot 2 20010db8000000000000000000000002 traffic 0 expiry 160 unverified 0102030405060708 5 issued 98 resends 2\n"
    ∷ [])
unfolding bytes_of hex_of digits_of decimal_of address_text check_text status_text locator_text slot_text slots_text peer_text preference_text numbers_text head_text state_text
states = refl

-- the answers of calls
answers : map joined
    (call_text 0 (Some (Start (record { time = 1; outbound = 2; inbound = 3; lifetime = 4; address = record { high = 5; low = 6 } })))
    ∷ call_text 1 (Some (Message (record { authentic = true; room = 384 })))
    ∷ call_text 8 (Some (Arrival 1))
    ∷ call_text 9 (Some (Send 1))
    ∷ call_text 11 (Some (Tick (record { time = 1; room = 320 })))
    ∷ call_text 12 (Some (Announce (record { room = 56; count = 1; inbound = 3; keymat = 0 })))
    ∷ call_text 10 None
    ∷ outcome_text (Ok tt)
    ∷ outcome_text (Err (refusal 16))
    ∷ send_text (Ok 3)
    ∷ send_text (Err (refusal 15))
    ∷ [])
    ≡ map ascii ("0 start" ∷ "1 message" ∷ "8 arrival" ∷ "9 send" ∷ "11 tick" ∷ "12 announcement" ∷ "10 malformed" ∷ " accepted\n" ∷ " refused 16\n" ∷ " granted slot 3\n" ∷ " refused 15\n" ∷ [])
unfolding digits_of decimal_of name_text call_text refusal_text outcome_text send_text
answers = refl

-- what a message answered that wrote so many bytes, with so many checks and KEYMAT Index 7
abbrev told : Result Received Refusal → (written checks : ℕ) → MessageAnswer
told outcome written checks = record { outcome = outcome; written = written; checks = checks; keymat = 7; association = first }

-- of a buffer of three bytes: a reply of two, one of none, an answer to a check, and a refusal
messages : map (λ (answer : MessageAnswer). joined (message_text answer (1 ∷ 0xc1 ∷ 9 ∷ [])))
    (told (Ok Moved) 2 1 ∷ told (Ok Repeated) 1 0 ∷ told (Ok Replied) 0 0 ∷ told (Ok Responded) 3 0 ∷ told (Err (refusal 22)) 0 0 ∷ [])
    ≡ map ascii
    (" accepted reply 2 checks 1 keymat 7 01c1\n"
    ∷ " repeated reply 1 checks 0 keymat 7 01\n"
    ∷ " accepted reply 0 checks 0 keymat 7\n"
    ∷ " accepted reply 3 checks 0 keymat 7 01c109\n"
    ∷ " refused 22\n"
    ∷ [])
unfolding hex_of digits_of decimal_of refusal_text counts_text bytes_text any_text reply_text message_text
messages = refl

-- what a tick answered that wrote so many bytes
abbrev ticked : Result ⊤ Refusal → (written : ℕ) → TickAnswer
ticked outcome written = record { outcome = outcome; written = written; association = first }

-- of a buffer of 81 bytes: two checks of 40 bytes, one, none, and a refusal
ticks : map (λ (answer : TickAnswer). joined (tick_text answer (replicate 81 0x0f)))
    (ticked (Ok tt) 80 ∷ ticked (Ok tt) 40 ∷ ticked (Ok tt) 0 ∷ ticked (Err (refusal 23)) 0 ∷ [])
    ≡ (ascii " accepted resent 2 " ++ (joined (replicate 80 (ascii "0f")) ++ ascii "\n"))
    ∷ (ascii " accepted resent 1 " ++ (joined (replicate 40 (ascii "0f")) ++ ascii "\n"))
    ∷ ascii " accepted resent 0\n"
    ∷ ascii " refused 23\n"
    ∷ []
unfolding hex_of digits_of decimal_of refusal_text bytes_text any_text tick_text
ticks = refl

-- what an announcement answered that wrote so many bytes
abbrev announced : Result ⊤ Refusal → (written : ℕ) → Announcement
announced outcome written = record { outcome = outcome; written = written; association = first }

-- of the same buffer: an announcement of two bytes, and a refusal
announcements : map (λ (answer : Announcement). joined (announcement_text answer (1 ∷ 0xc1 ∷ 9 ∷ []))) (announced (Ok tt) 2 ∷ announced (Err (refusal 21)) 0 ∷ [])
    ≡ map ascii (" accepted bytes 2 01c1\n" ∷ " refused 21\n" ∷ [])
unfolding hex_of digits_of decimal_of refusal_text bytes_text announcement_text
announcements = refl

-- ---- texts one after another
-- "ab", nothing, "c" from the second byte of a buffer: each stands where the one before it ends
laid_out_lem : let texts = ascii "ab" ∷ [] ∷ ascii "c" ∷ [] in
    (joined texts ≡ ascii "abc") × (laid_out texts 1 (ascii ".....") ≡ ascii ".abc.") × (laid_end texts 1 (ascii ".....") ≡ 4)
unfolding laid_out laid_end written_at end_of
laid_out_lem = (refl, refl, refl)

-- what does not fit is not written, and the next one stands in its place
left_out : let texts = ascii "a" ∷ ascii "bcd" ∷ ascii "e" ∷ [] in (laid_out texts 0 (ascii "...") ≡ ascii "ae.") × (laid_end texts 0 (ascii "...") ≡ 2)
unfolding laid_out laid_end written_at end_of
left_out = (refl, refl)

-- what a function that puts texts promises of the buffer and of the next place
promised : (next : ℕ) → (after : List ℕ) → Laid (ascii "ab" ∷ []) 1 (ascii "....") after next → (after ≡ ascii ".ab.") × (next ≡ 3)
unfolding laid_out laid_end written_at end_of
promised next after laid = (laid.buffer, laid.place)
