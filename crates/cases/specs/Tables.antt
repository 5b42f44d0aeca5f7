-- What a table of cases is made of: what the definitions give, and what is written down.
use Rattle.std.specs.Prelude.{ℕ, Bool, List, Err, Ok, Option, Result}
use Rattle.refusal.specs.Table.{refusal}
use Rattle.refusal.specs.declared.Refusal.{Refusal}
use Rattle.address.specs.declared.Address.{Address}
use Rattle.slot.specs.declared.Status.{Status}
use Rattle.slot.specs.Found.{status_in}
use Rattle.association.specs.declared.Association.{Association}
use Rattle.association.specs.declared.Answer.{Answer}
use Rattle.payload.specs.declared.SendAnswer.{SendAnswer}
use Rattle.clock.specs.declared.TickAnswer.{TickAnswer}
use Rattle.clock.specs.Ticks as ticks
use Rattle.update.specs.declared.MessageAnswer.{MessageAnswer}
use Rattle.update.specs.Messages.{message_of, buffer_after}
use Rattle.update.specs.declared.Received.{Received}
use Rattle.announcement.specs.declared.Announcement.{Announcement}

-- what is seen: a number; the status of an address; the preference; the whole answer to a start or an arrival, to a send, and to a message, a tick and an
-- announcement with the lent buffer after it
pub data Seen : Type 0 where
  number : ℕ → Seen
  status : Option Status → Seen
  prefers : Option ℕ → Seen
  answer : Answer → Seen
  sent : SendAnswer → Seen
  heard : MessageAnswer → (buffer : List ℕ) → Seen
  ticked : TickAnswer → (buffer : List ℕ) → Seen
  announced : Announcement → (buffer : List ℕ) → Seen

-- a case: what the definitions give, and what is written down
pub record Case : Type 0 where
  pub asked : Seen
  pub given : Seen

-- a case, with what is asked first
infixr 4 ◌gives◌
abbrev pub ◌gives◌ : Seen → Seen → Case
asked gives given = record { asked = asked; given = given }

-- the status of an address in an association
abbrev pub status_after : Address → Association → Seen
status_after x a = status (status_in x a.slots)

-- a message call
abbrev pub message : Association → (packet : List ℕ) → (authentic : Bool) → (nonces buffer : List ℕ) → Seen
message a packet authentic nonces buffer = heard (message_of a packet authentic nonces buffer) (buffer_after a packet authentic nonces buffer)

-- the answer to an accepted message or a repeat: "The answer tells reply bytes, number of checks, and KEYMAT Index"
abbrev pub told : Result Received Refusal → (written checks keymat : ℕ) → Association → (buffer : List ℕ) → Seen
told outcome written checks keymat a buffer =
    heard (record { outcome = outcome; written = written; checks = checks; keymat = keymat; association = a }) buffer

-- "A refusal returns its number and zero reply bytes; association and buffer are as lent."
abbrev pub declined : (why : ℕ) → Association → (buffer : List ℕ) → Seen
declined why a buffer = told (Err (refusal why)) 0 0 0 a buffer

-- a tick
abbrev pub tick : Association → (time : ℕ) → (buffer : List ℕ) → Seen
tick a time buffer = ticked (ticks.tick_of a time buffer) (ticks.buffer_after a time buffer)

-- the answer to an accepted tick: how many bytes were written
abbrev pub passed : (written : ℕ) → Association → (buffer : List ℕ) → Seen
passed written a buffer = ticked (record { outcome = Ok tt; written = written; association = a }) buffer

-- the answer to a refused tick
abbrev pub stopped : (why : ℕ) → Association → (buffer : List ℕ) → Seen
stopped why a buffer = ticked (record { outcome = Err (refusal why); written = 0; association = a }) buffer
