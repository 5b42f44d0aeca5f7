-- What is read of a packet: the first of the refusals 3 to 6 that it earns, or a Move, a Reply or a Check with all that later rules ask of it.
use Rattle.std.specs.Prelude.{ℕ, ◌+◌, cond, List, Result, Ok, Err, eqb, take, drop}
use Rattle.refusal.specs.declared.Refusal.{Refusal}
use Rattle.refusal.specs.Table.{refusal}
use Rattle.octets.specs.Numbers.{number_at}
use Rattle.parameter.specs.Types.{nonce_size}
use Rattle.frame.specs.Survey.{survey_of, refusal3, refusal4}
use Rattle.frame.specs.declared.Occurrence.{Occurrence}
use Rattle.frame.specs.declared.Survey.{Survey}
use Rattle.locator_set.specs.Sets.{accepted_set, refusal6}
use Rattle.packet.specs.Kinds.{is_move, is_reply, is_check}
use Rattle.packet.specs.declared.EchoResponse.{EchoResponse}
use Rattle.packet.specs.declared.EchoResponse.TheVariants.{Absent, Nonce, OtherLength}
use Rattle.packet.specs.declared.MoveFields.{MoveFields}
use Rattle.packet.specs.declared.CheckFields.{CheckFields}
use Rattle.packet.specs.declared.Message.{Message}
use Rattle.packet.specs.declared.Message.TheVariants.{Move, Reply, PeerCheck}

-- "An echo response of 8 bytes": its nonce, "as one 64-bit number". One of another length is still an echo response, and matches nothing
abbrev pub echo_of : List ℕ → Occurrence → EchoResponse
echo_of s echo = cond (eqb echo.times 0) Absent (cond (eqb echo.len nonce_size) (Nonce (number_at s echo.body nonce_size)) OtherLength)

-- ESP_INFO: "reserved 16 bits, KEYMAT Index 16, OLD SPI 32, NEW SPI 32". SEQ: the Update ID
abbrev pub fields_of : List ℕ → Survey → MoveFields
fields_of s seen = record {
  keymat = number_at s (seen.esp.body + 2) 2;
  old = number_at s (seen.esp.body + 4) 4;
  new = number_at s (seen.esp.body + 8) 4;
  id = number_at s seen.seq.body 4;
  echo = echo_of s seen.echo;
}

-- the bytes of the first LOCATOR_SET
abbrev pub set_bytes : List ℕ → Survey → List ℕ
set_bytes s seen = take seen.set.len (drop seen.set.body s)

-- a refusal, and nothing else
abbrev pub refusing : Refusal → Result Message Refusal
refusing why = Err why

-- the refusal of a number of document 01's table
abbrev pub refused : (number : ℕ) → Result Message Refusal
refused number = refusing (refusal number)

-- a Move whose set refusal 6 does not refuse
abbrev pub move_of : List ℕ → Survey → Result Message Refusal
move_of s seen = cond (refusal6 (set_bytes s seen)) (refused 6) (Ok (Move (fields_of s seen) (accepted_set (set_bytes s seen))))

-- a Reply
abbrev pub reply_of : List ℕ → Survey → Result Message Refusal
reply_of s seen = Ok (Reply (echo_of s seen.echo))

-- a Check: its Update ID, and where its opaque bytes stand. Its ESP_INFO "is not judged further"
abbrev pub check_of : List ℕ → Survey → Result Message Refusal
check_of s seen = Ok (PeerCheck (record { id = number_at s seen.seq.body 4; body = seen.request.body; len = seen.request.len }))

-- the opaque bytes of a Check
unfoldable pub opaque_of : List ℕ → CheckFields → List ℕ
opaque_of s c = take c.len (drop c.body s)

-- refusal 5, none of the three kinds, or what is read of the one that it is
unfoldable pub kind_of : List ℕ → Survey → Result Message Refusal
kind_of s seen =
    cond (is_move seen) (move_of s seen) (cond (is_reply seen) (reply_of s seen) (cond (is_check seen) (check_of s seen) (refused 5)))

-- refusals 3 to 6 are tried in this order
unfoldable pub reading_of : List ℕ → Result Message Refusal
reading_of s = cond (refusal3 s) (refused 3) (cond (refusal4 s) (refused 4) (kind_of s (survey_of s)))
