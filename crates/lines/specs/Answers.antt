-- The line of a record: its number, the call, and what the call answered.
use Rattle.std.specs.Prelude.{ℕ, ◌/◌, cond, List, [], ◌∷◌, ◌++◌, eqb, take, Option, None, Some, Err, Ok, Result, ⊤}
use Rattle.refusal.specs.declared.Refusal.{Refusal}
use Rattle.refusal.specs.Table.{number_of}
use Rattle.reply_form.specs.Replies.{resend_size}
use Rattle.clock.specs.declared.TickAnswer.{TickAnswer}
use Rattle.announcement.specs.declared.Announcement.{Announcement}
use Rattle.update.specs.declared.MessageAnswer.{MessageAnswer}
use Rattle.trace.specs.declared.Call.{Call}
use Rattle.trace.specs.declared.Call.TheVariants.{Start, Message, Arrival, Send, Tick, Announce}
use Rattle.text.specs.Texts.{hex_of}
use Rattle.lines.specs.Words.{word, field}
use Rattle.update.specs.declared.Received.{Received}
use Rattle.update.specs.declared.Received.TheVariants.{Moved, Repeated, Replied, Responded}

-- which call a record stands for, or that it fits none
unfoldable pub name_text : Option Call → List (List ℕ)
name_text (Some (Start start)) = word " start"
name_text (Some (Message message)) = word " message"
name_text (Some (Arrival size)) = word " arrival"
name_text (Some (Send size)) = word " send"
name_text (Some (Tick tick)) = word " tick"
name_text (Some (Announce announcement)) = word " announcement"
name_text None = word " malformed"

-- the beginning of a record's line
unfoldable pub call_text : ℕ → Option Call → List (List ℕ)
call_text index call = field "" index ++ name_text call

-- a refusal, by its number in document 01's table
unfoldable pub refusal_text : Refusal → List (List ℕ)
refusal_text why = field " refused " (number_of why) ++ word "\n"

-- what a start or an arrival answered
unfoldable pub outcome_text : Result ⊤ Refusal → List (List ℕ)
outcome_text (Ok tt) = word " accepted\n"
outcome_text (Err why) = refusal_text why

-- what a send answered
unfoldable pub send_text : Result ℕ Refusal → List (List ℕ)
send_text (Ok slot) = field " granted slot " slot ++ word "\n"
send_text (Err why) = refusal_text why

-- "The answer tells reply bytes, number of checks, and KEYMAT Index"
unfoldable pub counts_text : MessageAnswer → List (List ℕ)
counts_text answer = field " reply " answer.written ++ (field " checks " answer.checks ++ field " keymat " answer.keymat)

-- the end of a line that tells the bytes written: those that the buffer begins with
unfoldable pub bytes_text : (written : ℕ) → (buffer : List ℕ) → List (List ℕ)
bytes_text written buffer = word " " ++ ((hex_of (take written buffer) ∷ []) ++ word "\n")

-- the same, where the bytes follow only where there are any
unfoldable pub any_text : (written : ℕ) → (buffer : List ℕ) → List (List ℕ)
any_text written buffer = cond (eqb written 0) (word "\n") (bytes_text written buffer)

-- what an answered message tells, and its reply
unfoldable pub reply_text : MessageAnswer → (buffer : List ℕ) → List (List ℕ)
reply_text answer buffer = counts_text answer ++ any_text answer.written buffer

-- what a message answered, by what became of it: a Move, a Reply and a Check are accepted
abbrev pub ending_text : Result Received Refusal → MessageAnswer → (buffer : List ℕ) → List (List ℕ)
ending_text (Ok Moved) answer buffer = word " accepted" ++ reply_text answer buffer
ending_text (Ok Replied) answer buffer = word " accepted" ++ reply_text answer buffer
ending_text (Ok Repeated) answer buffer = word " repeated" ++ reply_text answer buffer
ending_text (Ok Responded) answer buffer = word " accepted" ++ reply_text answer buffer
ending_text (Err why) answer buffer = refusal_text why

-- what a message answered, with the buffer that its reply is in
unfoldable pub message_text : MessageAnswer → (buffer : List ℕ) → List (List ℕ)
message_text answer buffer = ending_text answer.outcome answer buffer

-- what a tick answered, by its outcome: the number of checks that are sent again, and their bytes
abbrev pub resent_text : Result ⊤ Refusal → TickAnswer → (buffer : List ℕ) → List (List ℕ)
resent_text (Ok tt) answer buffer = field " accepted resent " (answer.written / resend_size) ++ any_text answer.written buffer
resent_text (Err why) answer buffer = refusal_text why

-- what a tick answered, with the buffer that its resends are in
unfoldable pub tick_text : TickAnswer → (buffer : List ℕ) → List (List ℕ)
tick_text answer buffer = resent_text answer.outcome answer buffer

-- what an announcement answered, by its outcome
abbrev pub announced_text : Result ⊤ Refusal → Announcement → (buffer : List ℕ) → List (List ℕ)
announced_text (Ok tt) answer buffer = field " accepted bytes " answer.written ++ bytes_text answer.written buffer
announced_text (Err why) answer buffer = refusal_text why

-- what an announcement answered, with the buffer that it is in
unfoldable pub announcement_text : Announcement → (buffer : List ℕ) → List (List ℕ)
announcement_text answer buffer = announced_text answer.outcome answer buffer
