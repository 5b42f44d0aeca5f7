-- Worked examples, computed from the definitions: refusals 1, 7, 9 and 11 at their edges, what is Repeated, the order of a Move's refusals,
-- whole answers to messages that are read already, and to a Reply by its bytes. `cases` has more of these.
use Rattle.std.specs.Prelude.{ℕ, ◌^◌, ◌≡◌, refl, true, false, List, [], ◌∷◌, ◌++◌, map, replicate, Err, None, Ok, Some}
use Rattle.octets.specs.Records as records
use Rattle.octets.specs.Written.{bytes_of}
use Rattle.octets.specs.ExamplesHex.{hex}
use Rattle.parameter.specs.Written.{parameter_bytes}
use Rattle.refusal.specs.declared.Refusal.TheVariants.{ShortReplyBuffer, StaleUpdateId, UnmatchedEcho, WrongSpi, RepeatedNonce, UpdateIdsUsedUp}
use Rattle.parameter.specs.Types.{refused_type, wrong_length}
use Rattle.frame.specs.Parameters.{falls}
use Rattle.frame.specs.Survey.{occurs}
use Rattle.packet.specs.Kinds.{is_move, is_reply}
use Rattle.packet.specs.Readings.{kind_of, reading_of}
use Rattle.slot.specs.Clashes.{clash}
use Rattle.association.specs.Form.{refusal0}
use Rattle.packet.specs.declared.EchoResponse.{EchoResponse}
use Rattle.packet.specs.declared.EchoResponse.TheVariants.{Absent, Nonce}
use Rattle.packet.specs.declared.MoveFields.{MoveFields}
use Rattle.locator.specs.declared.ListedLocator.{ListedLocator}
use Rattle.slot.specs.declared.Status.{Status}
use Rattle.slot.specs.declared.Status.TheVariants.{Unverified, Active}
use Rattle.slot.specs.declared.Slot.{Slot}
use Rattle.slot.specs.Found.{empty_slot, slot_of}
use Rattle.association.specs.declared.Association.{Association}
use Rattle.readdress.specs.Echoes.{verify_all}
use Rattle.readdress.specs.Steps.{rebind, renew_all, retire_all}
use Rattle.readdress.specs.Checks.{checked, check_count}
use Rattle.readdress.specs.Moves.{settled, placed}
use Rattle.reply_form.specs.Replies.{ack_bytes, check_bytes, checks_bytes, move_bytes}
use Rattle.update.specs.Refusals.{refusal1, refusal2, refusal7, repeats, refusal9, refusal11}
use Rattle.update.specs.Messages.{Handled, after_move, refused, handle_reply, handle_move, handled, answer_of, message_of, buffer_after}
use Rattle.update.specs.declared.Received.TheVariants.{Moved, Repeated, Replied}

-- ---- single refusals
-- refusal 1 at 384; refusal 7 and Repeated about the highest seen, 5, and with none seen; refusal 11 at 2^32
edges : (map refusal1 (0 ∷ 383 ∷ 384 ∷ []) ≡ true ∷ true ∷ false ∷ [])
    × (map (λ id. refusal7 id (Some 5)) (4 ∷ 5 ∷ 6 ∷ []) ≡ true ∷ false ∷ false ∷ [])
    × (map (λ id. repeats id (Some 5)) (4 ∷ 5 ∷ 6 ∷ []) ≡ false ∷ true ∷ false ∷ [])
    × (map (λ id. refusal7 id None) (0 ∷ 1 ∷ []) ≡ false ∷ false ∷ [])
    × (map (λ id. repeats id None) (0 ∷ 1 ∷ []) ≡ false ∷ false ∷ [])
    × (map (refusal11 4294967295) (0 ∷ 1 ∷ 2 ∷ []) ≡ false ∷ false ∷ true ∷ [])
    × (map (refusal11 4294967296) (0 ∷ 1 ∷ []) ≡ false ∷ true ∷ [])
    × (map refusal2 (true ∷ false ∷ []) ≡ false ∷ true ∷ [])
edges = (refl, refl, refl, refl, refl, refl, refl, refl)

-- an entry for address n of this type and SPI, for both kinds of traffic and 60 seconds, without P
abbrev entry : (n kind spi : ℕ) → ListedLocator
entry n kind spi = record { address = record { high = 1; low = n }; lifetime = 60; spi = spi; traffic = 0; kind = kind; preferred = false }

-- refusal 9, with the outbound SPI 7: OLD SPI, NEW SPI 0, and the SPI of a type 1 locator; that of another type is not judged
refusal_9 : (map (λ old. refusal9 7 old 8 []) (7 ∷ 6 ∷ 8 ∷ 0 ∷ []) ≡ false ∷ true ∷ true ∷ true ∷ [])
    × (map (λ new. refusal9 7 7 new []) (7 ∷ 6 ∷ 8 ∷ 1 ∷ 0 ∷ []) ≡ false ∷ false ∷ false ∷ false ∷ true ∷ [])
    × (map (λ e. refusal9 7 7 8 (entry 1 0 0 ∷ e ∷ [])) (entry 2 1 8 ∷ entry 2 1 7 ∷ entry 2 1 9 ∷ entry 2 0 7 ∷ entry 2 0 9 ∷ entry 2 2 7 ∷ [])
    ≡ false ∷ true ∷ true ∷ false ∷ false ∷ false ∷ [])
refusal_9 = (refl, refl, refl)

-- ---- messages that are read already
-- address 1 with this expiry and status
abbrev holding : (expiry : ℕ) → Status → Slot
holding expiry s = slot_of (record { address = record { high = 1; low = 1 }; traffic = 0; expiry = expiry; status = s })

-- UNVERIFIED, with this check, issued at 100
abbrev pub waiting : (nonce id : ℕ) → Status
waiting nonce id = Unverified (record { nonce = nonce; id = id; issued = 100; resends = 0 })

-- an association at time 100, where the last ageing was at 97
abbrev pub with : (outbound peer next expiry : ℕ) → Status → Association
with outbound peer next expiry s = record {
  outbound = outbound;
  inbound = 4097;
  time = 100;
  aged = 97;
  credit = 500;
  peer = Some peer;
  next = next;
  preferred = Some 0;
  slots = holding expiry s ∷ replicate 7 empty_slot;
}

-- with nonce 9 outstanding, the highest Update ID 5, and this next own one
abbrev pub found : (next : ℕ) → Association
found next = with 7 5 next 130 (waiting 9 2)

-- a Move with KEYMAT Index 3 that lists address 1
abbrev fields : (old new id : ℕ) → EchoResponse → MoveFields
fields old new id e = record { keymat = 3; old = old; new = new; id = id; echo = e }

-- offered nonces: distinct
abbrev pub fresh : List ℕ
fresh = 11 ∷ 12 ∷ 13 ∷ 14 ∷ 15 ∷ 16 ∷ 17 ∷ 18 ∷ []

-- two of these are equal
abbrev equal : List ℕ
equal = 11 ∷ 12 ∷ 13 ∷ 14 ∷ 15 ∷ 16 ∷ 17 ∷ 11 ∷ []

-- the answer to a Move that lists address 1
abbrev moves : (next old new id : ℕ) → EchoResponse → (nonces : List ℕ) → Handled
moves next old new id e nonces = handle_move (found next) (fields old new id e) (entry 1 0 0 ∷ []) nonces

-- the outcome alone, where each Move also earns what comes later: 7, Repeated, 8, 9, 10, 11, and none
order : map (λ (h : Handled). h.outcome)
    (moves (2 ^ 32) 8 0 4 (Nonce 10) equal
    ∷ moves (2 ^ 32) 8 0 5 (Nonce 10) equal
    ∷ moves (2 ^ 32) 8 0 6 (Nonce 10) equal
    ∷ moves (2 ^ 32) 8 8 6 (Nonce 9) equal
    ∷ moves (2 ^ 32) 7 8 6 (Nonce 9) equal
    ∷ moves (2 ^ 32) 7 8 6 (Nonce 9) fresh
    ∷ moves 4294967295 7 8 6 (Nonce 9) fresh
    ∷ [])
    ≡ Err StaleUpdateId
    ∷ (Ok Repeated)
    ∷ Err UnmatchedEcho
    ∷ Err WrongSpi
    ∷ Err RepeatedNonce
    ∷ Err UpdateIdsUsedUp
    ∷ (Ok Moved)
    ∷ []
unfolding handle_move placed settled verify_all rebind renew_all retire_all check_count
order = refl

-- refusal 10: "from those outstanding before": a Move that answers nonce 9 and offers it again
offered_again : moves 3 7 7 6 (Nonce 9) (9 ∷ 12 ∷ 13 ∷ 14 ∷ 15 ∷ 16 ∷ 17 ∷ 18 ∷ []) ≡ refused 10 (found 3)
unfolding handle_move verify_all
offered_again = refl

-- refusal 11: with the next own Update ID at 2^32 a Move that brings no check is accepted
none_left : moves (2 ^ 32) 7 7 6 Absent fresh
    ≡ record { outcome = (Ok Moved); reply = ack_bytes 6; checks = 0; keymat = 3; left = with 7 6 (2 ^ 32) 160 (waiting 9 2) }
unfolding handle_move after_move placed settled verify_all rebind renew_all retire_all check_count checked move_bytes checks_bytes parameter_bytes bytes_of
none_left = refl

-- whole answers: Moves with a new SPI, above and below the outbound one, one with an echo, a repeat, and a refusal; a Reply, and one that matches
-- nothing
answers : (moves 3 7 8 6 Absent fresh
    ≡ record { outcome = (Ok Moved); reply = check_bytes 4097 6 3 11; checks = 1; keymat = 3; left = with 8 6 4 160 (waiting 11 3) })
    × (moves 3 7 6 6 Absent fresh
    ≡ record { outcome = (Ok Moved); reply = check_bytes 4097 6 3 11; checks = 1; keymat = 3; left = with 6 6 4 160 (waiting 11 3) })
    × (moves 3 7 7 6 (Nonce 9) fresh ≡ record { outcome = (Ok Moved); reply = ack_bytes 6; checks = 0; keymat = 3; left = with 7 6 3 160 Active })
    × (moves 3 7 8 5 (Nonce 9) fresh ≡ record { outcome = (Ok Repeated); reply = ack_bytes 5; checks = 0; keymat = 0; left = found 3 })
    × (moves 3 8 8 6 Absent fresh ≡ record { outcome = Err WrongSpi; reply = []; checks = 0; keymat = 0; left = found 3 })
    × (handle_reply (found 3) (Nonce 9) ≡ record { outcome = (Ok Replied); reply = []; checks = 0; keymat = 0; left = with 7 5 3 130 Active })
    × (handle_reply (found 3) (Nonce 10) ≡ refused 8 (found 3))
unfolding handle_reply handle_move after_move placed settled verify_all rebind renew_all retire_all check_count checked move_bytes checks_bytes parameter_bytes bytes_of
answers = (refl, refl, refl, refl, refl, refl, refl)

-- ---- messages by their bytes
-- a Reply that echoes nonce 9, in hex
abbrev reply : List ℕ
reply = 0x3b ∷ 6 ∷ 0x10 ∷ 0x21 ∷ replicate 36 0 ++ hex "03c10008 00000000 00000009 00000000"

-- the same, by its header longer than it is
abbrev malformed : List ℕ
malformed = 0x3b ∷ 7 ∷ 0x10 ∷ 0x21 ∷ replicate 36 0 ++ hex "03c10008 00000000 00000009 00000000"

-- an association that refusal 0 refuses: its next own Update ID is over 2^32
abbrev bad : Association
bad = found 4294967297

-- the first refusals in order: 0, 1, 2 and 3, where each also earns what comes later, and none
first_four : (handled bad malformed false fresh 383 ≡ refused 0 bad)
    × (handled (found 3) malformed false fresh 383 ≡ refused 1 (found 3))
    × (handled (found 3) malformed false fresh 384 ≡ refused 2 (found 3))
    × (handled (found 3) malformed true fresh 384 ≡ refused 3 (found 3))
    × (handled (found 3) reply true fresh 384 ≡ record { outcome = (Ok Replied); reply = []; checks = 0; keymat = 0; left = with 7 5 3 130 Active })
unfolding handled handle_reply verify_all refusal0 clash reading_of kind_of is_move is_reply falls occurs records.records refused_type wrong_length
first_four = (refl, refl, refl, refl, refl)

-- "The answer tells reply bytes, number of checks, and KEYMAT Index"; "Bytes past the reply are untouched."
told : (answer_of (moves 3 7 8 6 Absent fresh)
    ≡ record { outcome = (Ok Moved); written = 48; checks = 1; keymat = 3; association = with 8 6 4 160 (waiting 11 3) })
    × (message_of (found 3) reply true fresh (replicate 384 0xff)
    ≡ record { outcome = (Ok Replied); written = 0; checks = 0; keymat = 0; association = with 7 5 3 130 Active })
    × ((message_of (found 3) reply true fresh (replicate 383 0xff)).outcome ≡ Err ShortReplyBuffer)
    × (buffer_after (found 3) reply true fresh (replicate 384 0xff) ≡ replicate 384 0xff)
unfolding handled handle_reply verify_all refusal0 clash reading_of kind_of is_move is_reply falls occurs records.records refused_type wrong_length handle_move after_move placed settled rebind renew_all retire_all check_count checked move_bytes checks_bytes parameter_bytes bytes_of
told = (refl, refl, refl, refl)
