-- Worked examples, computed from the definitions: each judgement, the last time and the first buffer that are let pass, and which refusal comes first.
use Rattle.std.specs.Prelude.{ℕ, ◌≡◌, refl, [], ◌∷◌, map, None, Ok, Err}
use Rattle.refusal.specs.Table.{refusal}
use Rattle.packet.specs.declared.EchoResponse.TheVariants.{Absent}
use Rattle.packet.specs.declared.MoveFields.{MoveFields}
use Rattle.association.specs.declared.Association.{Association}
use Rattle.update.specs.Messages.{refused, repeated, accepted}
use Rattle.accept.specs.declared.Judgement.TheVariants.{Repeats, Passes}
use Rattle.accept.specs.Judged.{judged}
use Rattle.accept.specs.Room.{guarded}

-- an association at this time
abbrev at : (time : ℕ) → Association
at time = record { outbound = 7; inbound = 8; time = time; aged = 0; credit = 0; peer = None; next = 0; preferred = None; slots = [] }

-- a Move that lists nothing
abbrev fields : MoveFields
fields = record { keymat = 3; old = 7; new = 7; id = 5; echo = Absent }

-- stopped by a refusal, Repeated, let pass
judgements : map (judged (at 9) fields [] []) (Err (refusal 9) ∷ Ok Repeats ∷ Ok Passes ∷ []) ≡ refused 9 (at 9) ∷ repeated (at 9) 5 ∷ accepted (at 9) fields [] [] ∷ []
judgements = refl

-- "time 2^40 or more", "reply buffer below 384 bytes"
order : guarded 383 (at 1099511627776) (repeated (at 1099511627776) 7) ∷ guarded 383 (at 1099511627775) (repeated (at 1099511627775) 7)
    ∷ guarded 384 (at 1099511627775) (repeated (at 1099511627775) 7) ∷ []
    ≡ refused 0 (at 1099511627776) ∷ refused 1 (at 1099511627775) ∷ repeated (at 1099511627775) 7 ∷ []
order = refl
