-- Tick: from the association, the time and the length of the lent buffer to the whole answer. A refusal gives back the association and the buffer as they were.
use Rattle.std.specs.Prelude.{ℕ, cond, List, [], length, Err, Ok, Result, ⊤}
use Rattle.refusal.specs.Table.{refusal}
use Rattle.slots.specs.Rules.{expire_all, resend_all}
use Rattle.credit.specs.Clock.{refusal12, credit_at, last_ageing}
use Rattle.reply_form.specs.Replies.{overwritten}
use Rattle.resend.specs.Resends.{refusal23, resent_bytes}
use Rattle.association.specs.Form.{refusal0, with_clock}
use Rattle.association.specs.declared.Association.{Association}
use Rattle.clock.specs.declared.TickAnswer.{TickAnswer}
use Rattle.refusal.specs.declared.Refusal.{Refusal}

-- "Tick stores the time. Locators with time at or past expiry turn DEPRECATED."; order 3 of the credit: "Each whole 5 seconds is one ageing"; order 4 of the
-- checks of those that are left: "the count becomes that number"
abbrev pub ticked : Association → (time : ℕ) → Association
ticked a time =
    with_clock a time (last_ageing a.aged time) (credit_at a.aged time a.credit) (resend_all time (expire_all time a.slots))

-- "A tick writes each check whose count is below the number of moments reached", but "that tick and one at or past expiry resend nothing for it": those that are
-- given up or expired are DEPRECATED by then
abbrev pub resends : Association → (time : ℕ) → List ℕ
resends a time = resent_bytes a.inbound time (expire_all time a.slots)

-- ---- the answers
-- an answer with the bytes themselves
pub record Ticked : Type 0 where
  pub outcome : Result ⊤ Refusal
  pub bytes : List ℕ
  pub left : Association

-- "A refusal returns its number and zero reply bytes; association and buffer are as lent."
abbrev pub declined : (number : ℕ) → Association → Ticked
declined number a = record { outcome = Err (refusal number); bytes = []; left = a }

-- the tick is accepted
abbrev pub passed : Association → (time : ℕ) → Ticked
passed a time = record { outcome = (Ok tt); bytes = resends a time; left = ticked a time }

-- refusal 0 comes first; then 23, "tried before 12"; then 12
unfoldable pub handled : Association → (time room : ℕ) → Ticked
handled a time room =
    cond (refusal0 a) (declined 0 a)
    (cond (refusal23 room) (declined 23 a)
    (cond (refusal12 a.time time) (declined 12 a)
    (passed a time)))

-- ---- the whole answer of the call
-- what the call returns
abbrev pub answer_of : Ticked → TickAnswer
answer_of h = record { outcome = h.outcome; written = length h.bytes; association = h.left }

-- the answer to a tick that is lent this buffer
abbrev pub tick_of : Association → (time : ℕ) → (buffer : List ℕ) → TickAnswer
tick_of a time buffer = answer_of (handled a time (length buffer))

-- what the buffer holds afterwards: the resends, and then what was there
abbrev pub buffer_after : Association → (time : ℕ) → (buffer : List ℕ) → List ℕ
buffer_after a time buffer = overwritten (handled a time (length buffer)).bytes buffer
