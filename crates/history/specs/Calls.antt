-- The calls that may follow a start, what each answers and returns, and a sequence of them.
use Rattle.std.specs.Prelude.{ℕ, ◌≡◌, Bool, true, false, List, [], ◌∷◌, length, Err, Ok, Result, ⊤}
use Rattle.refusal.specs.declared.Refusal.{Refusal}
use Rattle.association.specs.declared.Association.{Association}
use Rattle.payload.specs.Calls.{arrival_of, send_of}
use Rattle.clock.specs.Ticks as ticks
use Rattle.reply_form.specs.Replies.{nonce_count}
use Rattle.update.specs.Messages.{message_of, buffer_after}
use Rattle.announcement.specs.declared.OwnLocator.{OwnLocator}
use Rattle.announcement.specs.Announcements as announcements
use Rattle.update.specs.declared.Received.{Received}
use Rattle.update.specs.declared.Received.TheVariants.{Moved, Repeated, Replied, Responded}

-- a call with its inputs. A message brings the packet's bytes, the mark, "eight nonces", and a lent reply buffer of any length; a tick its time and a lent
-- buffer of any length; an announcement our list, how many of its entries count, the new inbound SPI, the KEYMAT Index, and a lent buffer
pub data Call : Type 0 where
  message : (packet : List ℕ) (authentic : Bool) (nonces : List ℕ) (eight : length nonces ≡ nonce_count) (buffer : List ℕ) → Call
  arrival : (size : ℕ) → Call
  send : (size : ℕ) → Call
  tick : (time : ℕ) (buffer : List ℕ) → Call
  announce : (list : List OwnLocator) (count inbound keymat : ℕ) (buffer : List ℕ) → Call

-- what a call answers: a refusal; that it is accepted; for a message, that it is a repeat; for a send, the slot that it is granted
pub data Answered : Type 0 where
  refused_by : Refusal → Answered
  done : Answered
  repeated : Answered
  granted_to : (slot : ℕ) → Answered

-- what the answer to an arrival, a tick or an announcement says
abbrev pub of_outcome : Result ⊤ Refusal → Answered
of_outcome (Ok tt) = done
of_outcome (Err r) = refused_by r

-- what the answer to a send says
abbrev pub of_send : Result ℕ Refusal → Answered
of_send (Ok n) = granted_to n
of_send (Err r) = refused_by r

-- what the answer to a message says
abbrev pub of_message : Result Received Refusal → Answered
of_message (Ok Moved) = done
of_message (Ok Replied) = done
of_message (Ok Responded) = done
of_message (Ok Repeated) = repeated
of_message (Err r) = refused_by r

-- the answer to the call
abbrev pub answers : Association → Call → Answered
answers a (message packet authentic nonces eight buffer) = of_message (message_of a packet authentic nonces buffer).outcome
answers a (arrival size) = of_outcome (arrival_of a size).outcome
answers a (send size) = of_send (send_of a size).outcome
answers a (tick time buffer) = of_outcome (ticks.tick_of a time buffer).outcome
answers a (announce list count inbound keymat buffer) = of_outcome (announcements.announcement_of a list count inbound keymat buffer).outcome

-- "the one returned": the association after the call
abbrev pub returned : Association → Call → Association
returned a (message packet authentic nonces eight buffer) = (message_of a packet authentic nonces buffer).association
returned a (arrival size) = (arrival_of a size).association
returned a (send size) = (send_of a size).association
returned a (tick time buffer) = (ticks.tick_of a time buffer).association
returned a (announce list count inbound keymat buffer) = (announcements.announcement_of a list count inbound keymat buffer).association

-- the buffers that the host lends to the call: a message's "reply buffer", a tick's "320-byte buffer", and an announcement's "lent buffer"
abbrev pub lent : Call → List (List ℕ)
lent (message packet authentic nonces eight buffer) = buffer ∷ []
lent (arrival size) = []
lent (send size) = []
lent (tick time buffer) = buffer ∷ []
lent (announce list count inbound keymat buffer) = buffer ∷ []

-- what they hold after the call
abbrev pub lent_after : Association → Call → List (List ℕ)
lent_after a (message packet authentic nonces eight buffer) = buffer_after a packet authentic nonces buffer ∷ []
lent_after a (arrival size) = []
lent_after a (send size) = []
lent_after a (tick time buffer) = ticks.buffer_after a time buffer ∷ []
lent_after a (announce list count inbound keymat buffer) = announcements.buffer_after a list count inbound keymat buffer ∷ []

-- "Accepted: answered without a refusal number". "A repeat is answered Repeated."
abbrev pub is_accepted : Answered → Bool
is_accepted (refused_by r) = false
is_accepted done = true
is_accepted repeated = true
is_accepted (granted_to n) = true

-- the call is answered Repeated
abbrev pub is_repeat : Answered → Bool
is_repeat (refused_by r) = false
is_repeat done = false
is_repeat repeated = true
is_repeat (granted_to n) = false

-- a call in its place in a sequence: "the association handed in", the call, its answer, and the association "returned"
pub record Step : Type 0 where
  pub found : Association
  pub call : Call
  pub answered : Answered
  pub left : Association

-- the call, handed this association
abbrev pub step_of : Association → Call → Step
step_of a c = record { found = a; call = c; answered = answers a c; left = returned a c }

-- the history of a sequence of calls. "Each is handed what the last one left, and nobody else writes it." "A refused call stands in it and changes nothing."
unfoldable pub history : Association → List Call → List Step
history a [] = []
history a (c ∷ cs) = step_of a c ∷ history (returned a c) cs

-- the association after them
unfoldable pub after : Association → List Call → Association
after a [] = a
after a (c ∷ cs) = after (returned a c) cs
