-- Answers for every buffer that a caller may lend. `message::receive` tries refusal 1 before it calls what this is about, and is answered as the
-- definitions say.
use Rattle.std.specs.Prelude.{ℕ, cond}
use Rattle.association.specs.declared.Association.{Association}
use Rattle.update.specs.Refusals.{refusal1}
use Rattle.update.specs.Messages.{Handled, refused}

-- this answer, except that "reply buffer below 384 bytes" is refused by 1
abbrev pub roomy : (room : ℕ) → Association → Handled → Handled
roomy room a h = cond (refusal1 room) (refused 1 a) h
