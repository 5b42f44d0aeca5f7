-- Worked examples, computed from the definitions: Checks, with refusals 22 and 7 at their edges and in order, repeats, and whole answers by the packet's bytes.
use Rattle.std.specs.Prelude.{ℕ, ◌≡◌, refl, true, false, List, [], ◌∷◌, ◌++◌, map, replicate, Ok, Some}
use Rattle.octets.specs.Records as records
use Rattle.octets.specs.Written.{bytes_of}
use Rattle.octets.specs.ExamplesHex.{hex}
use Rattle.parameter.specs.Types.{refused_type, wrong_length}
use Rattle.parameter.specs.Written.{parameter_bytes}
use Rattle.frame.specs.Parameters.{falls}
use Rattle.frame.specs.Survey.{occurs}
use Rattle.packet.specs.Kinds.{is_move, is_reply, is_check}
use Rattle.packet.specs.Readings.{opaque_of, kind_of, reading_of}
use Rattle.slot.specs.Clashes.{clash}
use Rattle.association.specs.Form.{refusal0}
use Rattle.association.specs.declared.Association.{Association}
use Rattle.reply_form.specs.Replies.{response_bytes}
use Rattle.update.specs.Refusals.{refusal22}
use Rattle.update.specs.Messages.{Handled, after_check, refused, handle_check, handled, message_of, buffer_after}
use Rattle.update.specs.Examples.{with, waiting, found, fresh}
use Rattle.update.specs.declared.Received.TheVariants.{Repeated, Responded}

-- "up to 64 of them": 64 opaque bytes are let pass, and 65 are not
edges : map (λ (n : ℕ). refusal22 (replicate n 0)) (0 ∷ 1 ∷ 64 ∷ 65 ∷ []) ≡ false ∷ false ∷ false ∷ true ∷ []
edges = refl

-- 22 before 7 and before Repeated; 7; Repeated; accepted. The highest Update ID seen is 5
order : map (λ (h : Handled). h.outcome)
    (handle_check (found 3) 4 (replicate 65 0)
    ∷ handle_check (found 3) 5 (replicate 65 0)
    ∷ handle_check (found 3) 6 (replicate 65 0)
    ∷ handle_check (found 3) 4 (replicate 64 0)
    ∷ handle_check (found 3) 5 (replicate 64 0)
    ∷ handle_check (found 3) 6 (replicate 64 0)
    ∷ [])
    ≡ (refused 22 (found 3)).outcome ∷ (refused 22 (found 3)).outcome ∷ (refused 22 (found 3)).outcome ∷ (refused 7 (found 3)).outcome ∷ (Ok Repeated) ∷ (Ok Responded) ∷ []
unfolding handle_check
order = refl

-- whole answers: an accepted Check "stores its ID" and changes nothing else; a Repeated one "is answered with the bytes it would get if new and changes nothing"
answers : (handle_check (found 3) 6 (hex "aabb")
    ≡ record { outcome = (Ok Responded); reply = hex "01c10004 00000006 03c10002 aabb0000"; checks = 0; keymat = 0; left = with 7 6 3 130 (waiting 9 2) })
    × (handle_check (found 3) 5 (hex "aabb")
    ≡ record { outcome = (Ok Repeated); reply = hex "01c10004 00000005 03c10002 aabb0000"; checks = 0; keymat = 0; left = found 3 })
    × (handle_check (found 3) 4 (hex "aabb") ≡ refused 7 (found 3))
    × (handle_check (found 3) 6 (replicate 65 1) ≡ refused 22 (found 3))
unfolding handle_check response_bytes parameter_bytes bytes_of
answers = (refl, refl, refl, refl)

-- an accepted Check changes the highest Update ID of any association, and no other field
stored : (a : Association) (id : ℕ) → after_check a id
    ≡ record { outbound = a.outbound; inbound = a.inbound; time = a.time; aged = a.aged; credit = a.credit; peer = Some id; next = a.next; preferred = a.preferred; slots = a.slots }
stored a id = refl

-- ---- by the packet's bytes
-- a Check of Update ID 6 with ESP_INFO, ACK and nine opaque bytes
abbrev check : List ℕ
check =
    0x3b ∷ 0x0a ∷ 0x10 ∷ 0x21 ∷ replicate 36 0
    ++ (hex "0041000c 00000203 00001001 00001002" ++ (hex "01810004 00000006" ++ (hex "01c10004 00000003" ++ hex "03810009 01020304 05060708 09ffffff")))

-- the answer, and the buffer after it: the ACK and the echo response with the same bytes, padded with zeros, and then what was there
whole : (message_of (found 3) check true fresh (replicate 384 0xee)
    ≡ record { outcome = (Ok Responded); written = 24; checks = 0; keymat = 0; association = with 7 6 3 130 (waiting 9 2) })
    × (buffer_after (found 3) check true fresh (replicate 384 0xee)
    ≡ hex "01c10004 00000006 03c10009 01020304 05060708 09000000" ++ replicate 360 0xee)
    × ((message_of (found 3) check false fresh (replicate 384 0xee)).outcome ≡ (refused 2 (found 3)).outcome)
unfolding handled handle_check opaque_of refusal0 clash reading_of kind_of is_move is_reply is_check falls occurs records.records refused_type wrong_length response_bytes parameter_bytes bytes_of
whole = (refl, refl, refl)
