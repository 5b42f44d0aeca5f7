-- What a Move comes to that refusals 7 to 10 judged.
use Rattle.std.specs.Prelude.{ℕ, List, Result, Ok, Err}
use Rattle.refusal.specs.declared.Refusal.{Refusal}
use Rattle.packet.specs.declared.MoveFields.{MoveFields}
use Rattle.locator.specs.declared.ListedLocator.{ListedLocator}
use Rattle.association.specs.declared.Association.{Association}
use Rattle.update.specs.Messages.{Handled, declined, repeated, accepted}
use Rattle.accept.specs.declared.Judgement.{Judgement}
use Rattle.accept.specs.declared.Judgement.TheVariants.{Repeats, Passes}

-- one of them stops it, it "is Repeated", or they let it pass
abbrev pub judged : Association → MoveFields → (set : List ListedLocator) → (nonces : List ℕ) → Result Judgement Refusal → Handled
judged a m set nonces (Err why) = declined why a
judged a m set nonces (Ok Repeats) = repeated a m.id
judged a m set nonces (Ok Passes) = accepted a m set nonces
