-- How an arrival and a send end: cited by private functions alone.
use Rattle.std.specs.Prelude.{ℕ, cond, Err, Ok, Result, ⊤}
use Rattle.refusal.specs.Table.{refusal}
use Rattle.refusal.specs.declared.Refusal.{Refusal}
use Rattle.credit.specs.Credit.{refusal13}
use Rattle.association.specs.Form.{refusal0, with_credit, accepted}
use Rattle.association.specs.declared.Association.{Association}
use Rattle.association.specs.declared.Answer.{Answer}
use Rattle.payload.specs.declared.SendAnswer.{SendAnswer}
use Rattle.payload.specs.Calls.{granted}

-- refusal 0 comes first, then 13
abbrev pub judged : Association → (size : ℕ) → Result ⊤ Refusal
judged a size = cond (refusal0 a) (Err (refusal 0)) (cond (refusal13 size) (Err (refusal 13)) (Ok tt))

-- the answer to an arrival that leaves this credit, or is refused for this reason
abbrev pub arrived : Association → Result ℕ Refusal → Answer
arrived a (Ok credit) = accepted (with_credit a credit)
arrived a (Err why) = record { outcome = Err why; association = a }

-- the answer to a send that is granted this slot and leaves this credit, or is refused for this reason
abbrev pub sent : Association → Result (ℕ × ℕ) Refusal → SendAnswer
sent a (Ok p) = granted p.0 (with_credit a p.1)
sent a (Err why) = record { outcome = Err why; association = a }
