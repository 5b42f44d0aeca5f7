-- Calls on an association one after another, each named by a byte, as one number.
use Rattle.std.specs.Prelude.{ℕ, ◌+◌, ◌%◌, ◌^◌, true, cond, List, [], ◌∷◌, ◌==◌, Err, Ok, Result, ⊤}
use Rattle.refusal.specs.Table.{number_of}
use Rattle.address.specs.declared.Address.{Address}
use Rattle.association.specs.declared.Answer.{Answer}
use Rattle.association.specs.declared.Association.{Association}
use Rattle.association.specs.Form.{refusal0}
use Rattle.association.specs.Start.{start_of}
use Rattle.payload.specs.declared.SendAnswer.{SendAnswer}
use Rattle.payload.specs.Calls.{arrival_of, send_of}
use Rattle.clock.specs.declared.TickAnswer.{TickAnswer}
use Rattle.clock.specs.Ticks as ticks
use Rattle.update.specs.declared.MessageAnswer.{MessageAnswer}
use Rattle.update.specs.Messages.{message_of, buffer_after}
use Rattle.exported.specs.declared.Made.{Made}
use Rattle.exported.specs.Folds.{mixed, folded_from}
use Rattle.exported.specs.Readings.{bit_of}
use Rattle.refusal.specs.declared.Refusal.{Refusal}
use Rattle.update.specs.declared.Received.{Received}
use Rattle.update.specs.declared.Received.TheVariants.{Moved, Repeated, Replied, Responded}

-- ---- what the calls are given
-- the association that they start with: its time, both SPIs, and its one address, 2001:db8::1, with its lifetime
abbrev pub start_time : ℕ
start_time = 100

abbrev pub start_outbound : ℕ
start_outbound = 0x2001

abbrev pub start_inbound : ℕ
start_inbound = 0x1001

abbrev pub start_address : Address
start_address = record { high = 0x20010db800000000; low = 1 }

abbrev pub start_lifetime : ℕ
start_lifetime = 1000000000

-- the bytes that an arrival brings, and those that a send asks for
abbrev pub arrival_size : ℕ
arrival_size = 1000

abbrev pub send_size : ℕ
send_size = 500

-- the nonces that the messages are given
abbrev pub first_nonces : List ℕ
first_nonces = 11 ∷ 12 ∷ 13 ∷ 14 ∷ 15 ∷ 16 ∷ 17 ∷ 18 ∷ []

abbrev pub second_nonces : List ℕ
second_nonces = 21 ∷ 22 ∷ 23 ∷ 24 ∷ 25 ∷ 26 ∷ 27 ∷ 28 ∷ []

-- the bytes that name the calls
abbrev pub arrival_call : ℕ
arrival_call = 0

abbrev pub send_call : ℕ
send_call = 1

abbrev pub tick_call : ℕ
tick_call = 2

abbrev pub first_call : ℕ
first_call = 3

abbrev pub second_call : ℕ
second_call = 4

abbrev pub test_call : ℕ
test_call = 5

-- ---- answers as numbers
-- past the numbers of refusals: a call was accepted; what became of a message otherwise
abbrev pub accepted_number : ℕ
accepted_number = 256

abbrev pub replied_number : ℕ
replied_number = 257

abbrev pub responded_number : ℕ
responded_number = 258

abbrev pub repeated_number : ℕ
repeated_number = 259

-- an arrival
abbrev pub outcome_number : Result ⊤ Refusal → ℕ
outcome_number (Ok tt) = accepted_number
outcome_number (Err why) = number_of why

-- a tick, with the bytes that it writes
abbrev pub tick_number : TickAnswer → ℕ
tick_number answer = mixed (outcome_number answer.outcome) answer.written

-- a send, with the slot that it is granted
abbrev pub send_number : Result ℕ Refusal → ℕ
send_number (Ok slot) = mixed accepted_number slot
send_number (Err why) = number_of why

-- what became of a message
abbrev pub end_number : Result Received Refusal → ℕ
end_number (Ok Moved) = accepted_number
end_number (Ok Replied) = replied_number
end_number (Ok Responded) = responded_number
end_number (Ok Repeated) = repeated_number
end_number (Err why) = number_of why

-- a message, with what its answer tells
abbrev pub message_number : MessageAnswer → ℕ
message_number answer = folded_from (end_number answer.outcome) (answer.written ∷ answer.checks ∷ answer.keymat ∷ [])

-- ---- a call
-- a call that leaves this association and counts as this number
abbrev pub made : Association → (number : ℕ) → Made
made a number = record { association = a; number = number }

-- an arrival that answers so
abbrev pub made_by : Answer → Made
made_by answer = made answer.association (outcome_number answer.outcome)

-- a second later
abbrev pub later : Association → ℕ
later a = (a.time + 1) % 2 ^ 64

-- a tick that answers so
abbrev pub ticked : TickAnswer → Made
ticked answer = made answer.association (tick_number answer)

-- a send that answers so
abbrev pub sent : SendAnswer → Made
sent answer = made answer.association (send_number answer.outcome)

-- a message that is answered so
abbrev pub received : MessageAnswer → Made
received answer = made answer.association (message_number answer)

-- what a call leaves and counts as. The second message's association is not kept, and a byte that names no call makes none
unfoldable pub made_of : (first second : List ℕ) → Association → (buffer : List ℕ) → (call : ℕ) → Made
made_of first second a buffer call =
    cond (call == arrival_call) (made_by (arrival_of a arrival_size))
    (cond (call == send_call) (sent (send_of a send_size))
    (cond (call == tick_call) (ticked (ticks.tick_of a (later a) buffer))
    (cond (call == first_call) (received (message_of a first true first_nonces buffer))
    (cond (call == second_call) (made a (message_number (message_of a second true second_nonces buffer)))
    (cond (call == test_call) (made a (bit_of (refusal0 a)))
    (made a 0))))))

-- the buffer's bytes after it
unfoldable pub buffer_of : (first second : List ℕ) → Association → (buffer : List ℕ) → (call : ℕ) → List ℕ
buffer_of first second a buffer call =
    cond (call == tick_call) (ticks.buffer_after a (later a) buffer)
    (cond (call == first_call) (buffer_after a first true first_nonces buffer)
    (cond (call == second_call) (buffer_after a second true second_nonces buffer)
    buffer))

-- ---- calls one after another
-- what is held between them: the association, the buffer's bytes, and the running number
pub record Run : Type 0 where
  pub association : Association
  pub buffer : List ℕ
  pub number : ℕ

module _ (first second : List ℕ) where
  -- after one call
  abbrev pub after_call : Run → (call : ℕ) → Run
  after_call run call =
      let m = made_of first second run.association run.buffer call in
      record {
        association = m.association;
        buffer = buffer_of first second run.association run.buffer call;
        number = mixed run.number m.number;
      }

  -- after calls, in their order
  unfoldable pub run_of : Run → (calls : List ℕ) → Run
  run_of run [] = run
  run_of run (call ∷ calls) = run_of (after_call run call) calls

-- before the first call
abbrev pub start_run : (buffer : List ℕ) → Run
start_run buffer = record {
  association = (start_of start_time start_outbound start_inbound start_address start_lifetime).association;
  buffer = buffer;
  number = 0;
}

-- after all calls
abbrev pub calls_run : (calls first second buffer : List ℕ) → Run
calls_run calls first second buffer = run_of first second (start_run buffer) calls

-- the whole answer: the running number, and then the credit and the time that are left
abbrev pub run_number : Run → ℕ
run_number run = folded_from run.number (run.association.credit ∷ run.association.time ∷ [])
