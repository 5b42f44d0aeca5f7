-- Arrival and send: each answer with the association after it. A refusal gives back the association as it was.
use Rattle.std.specs.Prelude.{ℕ, ◌-◌, cond, Err, Ok}
use Rattle.refusal.specs.Table.{refusal}
use Rattle.path.specs.Choices.{path_of}
use Rattle.path.specs.declared.Path.{Path}
use Rattle.path.specs.declared.Path.TheVariants.{ToActive, ToUnverified, NoCarrier}
use Rattle.credit.specs.Credit.{refusal13, credited, covers}
use Rattle.association.specs.Form.{refusal0, with_credit, accepted, refused}
use Rattle.association.specs.declared.Association.{Association}
use Rattle.association.specs.declared.Answer.{Answer}
use Rattle.payload.specs.declared.SendAnswer.{SendAnswer}

-- "Arrival adds its size, stopping at the limit." Refusal 0 comes first, then 13
unfoldable pub arrival_of : Association → (size : ℕ) → Answer
arrival_of a size =
    cond (refusal0 a) (refused 0 a)
    (cond (refusal13 size) (refused 13 a)
    (accepted (with_credit a (credited a.credit size))))

-- the send is granted slot n and leaves this association
abbrev pub granted : (n : ℕ) → Association → SendAnswer
granted n a = record { outcome = Ok n; association = a }

-- the send is refused by this number of document 01's table and leaves this association
abbrev pub denied : (number : ℕ) → Association → SendAnswer
denied number a = record { outcome = Err (refusal number); association = a }

-- refusal 14: "no carrier ACTIVE or UNVERIFIED". "To ACTIVE no credit is taken. To UNVERIFIED the packet is granted exactly if credit is higher
-- than its size, and the size is taken off." Refusal 15: "UNVERIFIED chosen, credit not higher"
abbrev pub send_to : Association → (size : ℕ) → Path → SendAnswer
send_to a size NoCarrier = denied 14 a
send_to a size (ToActive n) = granted n a
send_to a size (ToUnverified n) = cond (covers a.credit size) (granted n (with_credit a (a.credit - size))) (denied 15 a)

-- "Send tries 13, 14, 15", after 0
unfoldable pub send_of : Association → (size : ℕ) → SendAnswer
send_of a size =
    cond (refusal0 a) (denied 0 a)
    (cond (refusal13 size) (denied 13 a)
    (send_to a size (path_of a.preferred a.slots)))
