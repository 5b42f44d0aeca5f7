-- Answers for every association and buffer that a caller may hand in. `message::receive` tries refusals 0 and 1 before it calls what this is about, and is
-- answered as the definitions say.
use Rattle.std.specs.Prelude.{ℕ, cond, leb}
use Rattle.credit.specs.Clock.{time_limit}
use Rattle.association.specs.declared.Association.{Association}
use Rattle.update.specs.Refusals.{refusal1}
use Rattle.update.specs.Messages.{Handled, refused}

-- this answer, except that "time 2^40 or more" is refused by 0 and "reply buffer below 384 bytes" by 1
abbrev pub guarded : (room : ℕ) → Association → Handled → Handled
guarded room a h = cond (leb time_limit a.time) (refused 0 a) (cond (refusal1 room) (refused 1 a) h)
