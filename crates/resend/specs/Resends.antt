-- The checks that a tick sends again (order 4): "A tick writes each check whose count is below the number of moments reached, .. in slot order, 40 bytes each".
use Rattle.std.specs.Prelude.{ℕ, ◌*◌, Bool, cond, List, [], ltb, None, Option, Some}
use Rattle.std.specs.List.{flat_map}
use Rattle.check_times.specs.Times.{is_due}
use Rattle.reply_form.specs.Replies.{resend_size, resend_bytes}
use Rattle.slot.specs.declared.Status.{Status}
use Rattle.slot.specs.declared.Status.TheVariants.{Unverified, Active, Deprecated}
use Rattle.slot.specs.declared.Slot.{Slot}
use Rattle.slot.specs.Found.{slot_count}
use Rattle.slots.specs.Rules.{resend_all}
use Rattle.slot.specs.declared.Locator.{Locator}

-- what the resends of eight checks take
abbrev pub tick_room : ℕ
tick_room = slot_count * resend_size

-- refusal 23: "Tick now needs a 320-byte buffer"
abbrev pub refusal23 : (room : ℕ) → Bool
refusal23 room = ltb room tick_room

-- what is written for a status: "with the inbound SPI now held and its first Update ID and nonce"
abbrev pub status_bytes : (inbound time : ℕ) → Status → List ℕ
status_bytes inbound time (Unverified k) = cond (is_due k.issued k.resends time) (resend_bytes inbound k.id k.nonce) []
status_bytes inbound time Active = []
status_bytes inbound time Deprecated = []

-- for what is held
abbrev pub held_bytes : (inbound time : ℕ) → Option Locator → List ℕ
held_bytes inbound time None = []
held_bytes inbound time (Some l) = status_bytes inbound time l.status

-- for a slot
abbrev pub slot_bytes : (inbound time : ℕ) → Slot → List ℕ
slot_bytes inbound time s = held_bytes inbound time s.holding

-- for all slots, "in slot order"
unfoldable pub resent_bytes : (inbound time : ℕ) → List Slot → List ℕ
resent_bytes inbound time ss = flat_map (slot_bytes inbound time) ss

-- ---- the same for every buffer that a caller may lend. `clock::tick` tries refusal 23 before it calls what this is about
-- the bytes; none where the buffer is too short
abbrev pub sent_bytes : (room inbound time : ℕ) → List Slot → List ℕ
sent_bytes room inbound time ss = cond (refusal23 room) [] (resent_bytes inbound time ss)

-- the slots; as they were where the buffer is too short
abbrev pub sent_slots : (room time : ℕ) → List Slot → List Slot
sent_slots room time ss = cond (refusal23 room) ss (resend_all time ss)
