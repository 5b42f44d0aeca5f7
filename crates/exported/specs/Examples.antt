-- Worked examples, computed from the definitions.
use Rattle.std.specs.Prelude.{◌≡◌, ℕ, true, false, List, [], ◌∷◌, ◌++◌, map, drop, replicate, refl, Err, None, Ok, Some}
use Prim.Native.String.{String}
use Rattle.refusal.specs.Table.{refusal}
use Rattle.octets.specs.Records as records
use Rattle.octets.specs.Written.{bytes_of}
use Rattle.octets.specs.ExamplesHex.{hex}
use Rattle.address.specs.Rules.{legal}
use Rattle.parameter.specs.Types.{refused_type, wrong_length}
use Rattle.parameter.specs.Written.{parameter_bytes}
use Rattle.frame.specs.Parameters.{falls}
use Rattle.frame.specs.Survey.{occurs}
use Rattle.locator.specs.declared.ListedLocator.{ListedLocator}
use Rattle.locator.specs.Locators.{ill_form}
use Rattle.locator_set.specs.Sets.{twice, marks}
use Rattle.packet.specs.declared.EchoResponse.{EchoResponse}
use Rattle.packet.specs.declared.EchoResponse.TheVariants.{Absent, Nonce, OtherLength}
use Rattle.packet.specs.declared.Message.{Message}
use Rattle.packet.specs.declared.Message.TheVariants.{Move, Reply, PeerCheck}
use Rattle.packet.specs.Kinds.{is_move}
use Rattle.packet.specs.Readings.{kind_of, reading_of}
use Rattle.slot.specs.declared.Status.TheVariants.{Active}
use Rattle.slot.specs.Clashes.{clash}
use Rattle.slot.specs.Found.{empty_slot, slot_of}
use Rattle.path.specs.Choices.{path_of}
use Rattle.association.specs.declared.Association.{Association}
use Rattle.association.specs.Form.{refusal0}
use Rattle.association.specs.Start.{start_of}
use Rattle.credit.specs.Clock.{aged_by}
use Rattle.payload.specs.Calls.{arrival_of, send_of}
use Rattle.resend.specs.Resends.{resent_bytes}
use Rattle.clock.specs.Ticks as ticks
use Rattle.readdress.specs.Echoes.{verify_all}
use Rattle.readdress.specs.Steps.{rebind, renew_all, retire_all}
use Rattle.readdress.specs.Checks as checks
use Rattle.readdress.specs.Moves.{settled, placed}
use Rattle.reply_form.specs.Replies.{checks_bytes, move_bytes}
use Rattle.update.specs.Messages.{after_move, handle_move, handled}
use Rattle.exported.specs.Folds.{mixed, folded_from, folded}
use Rattle.exported.specs.Readings.{reading_numbers}
use Rattle.exported.specs.Calls.{first_nonces, second_nonces, outcome_number, send_number, end_number, message_number, made_of, buffer_of, Run, run_of, calls_run, run_number}
use Rattle.update.specs.declared.Received.TheVariants.{Moved, Repeated, Replied, Responded}

-- ---- numbers as one
-- 5 * (5 * 1 + 2) + 3; none; after another; the last of 64 bits, and past it
folds : (folded (1 ∷ 2 ∷ 3 ∷ []) ≡ 38)
    × (folded [] ≡ 0)
    × (folded_from 256 (3 ∷ []) ≡ 1283)
    × (folded (18446744073709551615 ∷ []) ≡ 18446744073709551615)
    × (folded (18446744073709551615 ∷ 7 ∷ []) ≡ 2)
unfolding mixed
folds = (refl, refl, refl, refl, refl)

-- ---- readings
-- an array of locators, of which the second is of type 1, for data, with P
abbrev listed : List ListedLocator
listed =
    record { address = record { high = 21; low = 22 }; lifetime = 23; spi = 0; traffic = 0; kind = 0; preferred = false }
    ∷ record { address = record { high = 31; low = 32 }; lifetime = 300; spi = 0x1002; traffic = 2; kind = 1; preferred = true }
    ∷ record { address = record { high = 41; low = 42 }; lifetime = 43; spi = 0; traffic = 1; kind = 0; preferred = false }
    ∷ []

-- a Move that lists so many of them
abbrev move : (count : ℕ) → EchoResponse → Message
move count echo = Move (record { keymat = 11; old = 12; new = 13; id = 14; echo = echo }) (record { listed = listed; count = count })

-- each kind, and each case of an echo response
kinds : map reading_numbers
    (Err (refusal 6)
    ∷ Ok (move 0 Absent)
    ∷ Ok (move 2 (Nonce 99))
    ∷ Ok (Reply (Nonce 99))
    ∷ Ok (Reply OtherLength)
    ∷ Ok (Reply Absent)
    ∷ Ok (PeerCheck (record { id = 51; body = 52; len = 53 }))
    ∷ [])
    ≡ (4 ∷ 6 ∷ [])
    ∷ (1 ∷ 11 ∷ 12 ∷ 13 ∷ 14 ∷ 0 ∷ 0 ∷ 0 ∷ [])
    ∷ (1 ∷ 11 ∷ 12 ∷ 13 ∷ 14 ∷ 2 ∷ 1 ∷ 99 ∷ 21 ∷ 22 ∷ 23 ∷ 0 ∷ 31 ∷ 32 ∷ 0x10020000012c ∷ 1027 ∷ [])
    ∷ (2 ∷ 1 ∷ 99 ∷ [])
    ∷ (2 ∷ 2 ∷ 0 ∷ [])
    ∷ (2 ∷ 0 ∷ 0 ∷ [])
    ∷ (3 ∷ 51 ∷ 52 ∷ 53 ∷ [])
    ∷ []
unfolding reading_numbers
kinds = refl

-- ---- answers
-- an association at time 102 with this credit, as calls leave the one that they start with
abbrev left : (credit : ℕ) → Association
left credit = record {
  outbound = 0x2001;
  inbound = 0x1001;
  time = 102;
  aged = 100;
  credit = credit;
  peer = None;
  next = 0;
  preferred = Some 0;
  slots = slot_of (record { address = record { high = 0x20010db800000000; low = 1 }; traffic = 0; expiry = 1000000100; status = Active }) ∷ replicate 7 empty_slot;
}

answers : (map outcome_number (Ok tt ∷ Err (refusal 13) ∷ []) ≡ 256 ∷ 13 ∷ [])
    × (map send_number (Ok 0 ∷ Ok 3 ∷ Err (refusal 15) ∷ []) ≡ 1280 ∷ 1283 ∷ 15 ∷ [])
    × (map end_number ((Ok Moved) ∷ (Ok Replied) ∷ (Ok Responded) ∷ (Ok Repeated) ∷ Err (refusal 22) ∷ []) ≡ 256 ∷ 257 ∷ 258 ∷ 259 ∷ 22 ∷ [])
    × (message_number (record { outcome = (Ok Replied); written = 1; checks = 2; keymat = 3; association = left 0 }) ≡ folded (257 ∷ 1 ∷ 2 ∷ 3 ∷ []))
    × (run_number (record { association = left 1000; buffer = []; number = 7 }) ≡ folded (7 ∷ 1000 ∷ 102 ∷ []))
unfolding mixed
answers = (refl, refl, refl, refl, refl)

-- the nonces are distinct, and no two messages share one
nonces : first_nonces ++ second_nonces ≡ 11 ∷ 12 ∷ 13 ∷ 14 ∷ 15 ∷ 16 ∷ 17 ∷ 18 ∷ 21 ∷ 22 ∷ 23 ∷ 24 ∷ 25 ∷ 26 ∷ 27 ∷ 28 ∷ []
nonces = refl

-- ---- calls
-- a tick that is accepted and writes nothing
abbrev silent : ℕ
silent = folded (256 ∷ 0 ∷ [])

-- an arrival, a send to the ACTIVE address, two ticks, the test of refusal 0, and a byte that names no call
plain : calls_run (0 ∷ 1 ∷ 2 ∷ 2 ∷ 5 ∷ 9 ∷ []) [] [] (replicate 320 7)
    ≡ record { association = left 1000; buffer = replicate 320 7; number = folded (256 ∷ 1280 ∷ silent ∷ silent ∷ 0 ∷ 0 ∷ []) }
unfolding mixed made_of buffer_of run_of start_of arrival_of send_of resent_bytes ticks.handled refusal0 clash path_of aged_by legal
plain = refl

-- the test of refusal 0 of an association whose credit is over the limit, which other calls refuse
tested : map (λ (call : ℕ). (made_of [] [] (left 1048577) [] call).number) (5 ∷ 6 ∷ 0 ∷ []) ≡ 1 ∷ 0 ∷ 0 ∷ []
unfolding made_of arrival_of refusal0
tested = refl

-- a Move, in hex: KEYMAT Index 7, NEW SPI 0x2002, Update ID 1, and one new address, 2001:db8::2
abbrev moving : List ℕ
moving =
    0x3b ∷ 0x0b ∷ 0x10 ∷ 0x21 ∷ replicate 36 0
    ++ (hex "0041000c 00000007 00002001 00002002" ++ (hex "00c1001c 00010501 00000e10 00002002 20010db8000000000000000000000002" ++ hex "01810004 00000001"))

-- the check of that address, with this nonce
abbrev check : (nonce : String) → List ℕ
check nonce = hex "0041000c 00000000 00001001 00001001" ++ (hex "01810004 00000000" ++ (hex "01c10004 00000001" ++ (hex "03810008 00000000" ++ (hex nonce ++ hex "00000000"))))

-- what its answer tells as one number, and that of a Repeated one, and of refusal 3
abbrev moved : ℕ
moved = folded (256 ∷ 48 ∷ 1 ∷ 7 ∷ [])

abbrev again : ℕ
again = folded (259 ∷ 8 ∷ 0 ∷ 0 ∷ [])

abbrev malformed : ℕ
malformed = folded (3 ∷ 0 ∷ 0 ∷ 0 ∷ [])

-- a run of calls with these messages, whose buffer is all 0xee at first
abbrev run : (first second calls : List ℕ) → Run
run first second calls = calls_run calls first second (replicate 384 0xee)

-- the running number where one message is the Move and the other is empty, and where both are the Move: the first message's association is kept, so that the
-- Move is Repeated after it, and the second's is not
messages : ((run moving [] (3 ∷ 4 ∷ [])).number ≡ folded (moved ∷ malformed ∷ []))
    × ((run [] moving (3 ∷ 4 ∷ [])).number ≡ folded (malformed ∷ moved ∷ []))
    × (map (λ (calls : List ℕ). (run moving moving calls).number) ((3 ∷ 4 ∷ []) ∷ (4 ∷ 4 ∷ []) ∷ (4 ∷ 3 ∷ []) ∷ [])
    ≡ folded (moved ∷ again ∷ []) ∷ folded (moved ∷ moved ∷ []) ∷ folded (moved ∷ moved ∷ []) ∷ [])
unfolding mixed made_of buffer_of run_of start_of handled handle_move after_move placed settled verify_all rebind renew_all retire_all checks.check_count checks.checked refusal0 clash legal reading_of kind_of is_move falls occurs records.records refused_type wrong_length ill_form twice marks move_bytes checks_bytes parameter_bytes bytes_of
messages = (refl, refl, refl)

-- after the Move a send goes to the UNVERIFIED address and takes credit, and a second one finds too little
sends : let after = run moving [] (0 ∷ 3 ∷ 1 ∷ 1 ∷ []) in (after.number ≡ folded (256 ∷ moved ∷ 1280 ∷ 15 ∷ [])) × (after.association.credit ≡ 500)
unfolding mixed made_of buffer_of run_of start_of handled handle_move after_move placed settled verify_all rebind renew_all retire_all checks.check_count checks.checked refusal0 clash legal reading_of kind_of is_move falls occurs records.records refused_type wrong_length ill_form twice marks move_bytes checks_bytes parameter_bytes bytes_of arrival_of send_of path_of
sends = (refl, refl)

-- both messages write into the buffer: a check with the second's nonce, and an ACK over a check with the first's
buffers : ((run [] moving (4 ∷ [])).buffer ≡ check "00000015" ++ replicate 336 0xee)
    × ((run moving moving (3 ∷ 4 ∷ [])).buffer ≡ hex "01c10004 00000001" ++ (drop 8 (check "0000000b") ++ replicate 336 0xee))
unfolding mixed made_of buffer_of run_of start_of handled handle_move after_move placed settled verify_all rebind renew_all retire_all checks.check_count checks.checked refusal0 clash legal reading_of kind_of is_move falls occurs records.records refused_type wrong_length ill_form twice marks move_bytes checks_bytes parameter_bytes bytes_of
buffers = (refl, refl)

-- a tick after the Move sends its check again, over the beginning of the reply
resends : let after = run moving [] (3 ∷ 2 ∷ []) in
    (after.number ≡ folded (moved ∷ folded (256 ∷ 40 ∷ []) ∷ []))
    × (after.buffer
    ≡ hex "0041000c 00000000 00001001 00001001 01810004 00000000 03810008 00000000 0000000b 00000000" ++ (drop 40 (check "0000000b") ++ replicate 336 0xee))
unfolding mixed made_of buffer_of run_of start_of handled handle_move after_move placed settled verify_all rebind renew_all retire_all checks.check_count checks.checked refusal0 clash legal reading_of kind_of is_move falls occurs records.records refused_type wrong_length ill_form twice marks move_bytes checks_bytes parameter_bytes bytes_of resent_bytes ticks.handled aged_by
resends = (refl, refl)
