-- What a tick is refused for, and how a refused tick ends: cited by private functions alone.
use Rattle.std.specs.Prelude.{ℕ, cond, Err, Ok, Result, ⊤}
use Rattle.refusal.specs.Table.{refusal}
use Rattle.refusal.specs.declared.Refusal.{Refusal}
use Rattle.credit.specs.Clock.{refusal12}
use Rattle.resend.specs.Resends.{refusal23}
use Rattle.association.specs.Form.{refusal0}
use Rattle.association.specs.declared.Association.{Association}
use Rattle.clock.specs.declared.TickAnswer.{TickAnswer}

-- the answer to a call that is refused for this reason
abbrev pub refused_with : Refusal → Association → TickAnswer
refused_with why a = record { outcome = Err why; written = 0; association = a }

-- refusal 0 comes first; then 23; then 12
abbrev pub judged : Association → (time room : ℕ) → Result ⊤ Refusal
judged a time room =
    cond (refusal0 a) (Err (refusal 0))
    (cond (refusal23 room) (Err (refusal 23))
    (cond (refusal12 a.time time) (Err (refusal 12))
    (Ok tt)))
