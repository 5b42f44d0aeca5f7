-- Worked examples, computed from the definitions: refusals 0, 23 and 12, expiry, ageing, and the checks that are sent again.
use Rattle.std.specs.Prelude.{ℕ, ◌^◌, ◌≡◌, refl, [], ◌∷◌, ◌++◌, map, replicate, Err, None, Ok, Some}
use Rattle.octets.specs.ExamplesHex.{hex}
use Rattle.octets.specs.Written.{bytes_of}
use Rattle.parameter.specs.Written.{parameter_bytes}
use Rattle.refusal.specs.Table.{refusal}
use Rattle.slot.specs.declared.Status.{Status}
use Rattle.slot.specs.declared.Status.TheVariants.{Unverified, Active, Deprecated}
use Rattle.slot.specs.declared.Slot.{Slot}
use Rattle.slot.specs.Found.{empty_slot, slot_of}
use Rattle.slot.specs.Clashes.{clash}
use Rattle.credit.specs.Clock.{aged_by}
use Rattle.association.specs.declared.Association.{Association}
use Rattle.association.specs.Form.{refusal0}
use Rattle.resend.specs.Resends.{resent_bytes}
use Rattle.clock.specs.declared.TickAnswer.{TickAnswer}
use Rattle.clock.specs.Ticks.{handled, tick_of, buffer_after}

abbrev holding : (low expiry : ℕ) → Status → Slot
holding low expiry s = slot_of (record { address = record { high = 0x20010db800000000; low = low }; traffic = 0; expiry = expiry; status = s })

-- one locator of lifetime 60 set at 100, and one of lifetime 17
abbrev with : (time aged credit : ℕ) (first second : Status) → Association
with time aged credit first second =
    record { outbound = 8193; inbound = 4097; time = time; aged = aged; credit = credit; peer = None; next = 0; preferred = Some 0; slots = holding 1 160 first ∷ holding 2 117 second ∷ replicate 6 empty_slot }

abbrev checked : Status
checked = Unverified (record { nonce = 7; id = 0; issued = 102; resends = 4 })

-- the last ageing at 100, and a tick at 102 since then
abbrev begun : Association
begun = with 102 100 1000 Active checked

-- the last ageing is after the time
abbrev broken : Association
broken = with 102 103 1000 Active checked

-- the answer to a tick with a buffer of this length
abbrev at : (room : ℕ) → Association → (time : ℕ) → TickAnswer
at room a time = tick_of a time (replicate room 0xff)

-- an accepted tick that sends nothing again
abbrev silent : Association → TickAnswer
silent a = record { outcome = (Ok tt); written = 0; association = a }

-- a refused tick
abbrev refused : (number : ℕ) → Association → TickAnswer
refused number a = record { outcome = Err (refusal number); written = 0; association = a }

refusals : (map (at 320 begun) (100 ∷ 101 ∷ 2 ^ 40 ∷ []) ≡ replicate 3 (refused 12 begun))
    × (map (at 320 broken) (101 ∷ 102 ∷ []) ≡ replicate 2 (refused 0 broken))
    × (map (λ (room : ℕ). at room begun 102) (0 ∷ 319 ∷ 320 ∷ 321 ∷ []) ≡ refused 23 begun ∷ refused 23 begun ∷ silent begun ∷ silent begun ∷ [])
unfolding handled resent_bytes refusal0 clash aged_by
refusals = (refl, refl, refl)

-- "tried before 12": an input that earns two is refused by the first
order : (at 319 broken 102 ≡ refused 0 broken) × (at 319 begun 101 ≡ refused 23 begun) × (at 320 broken 101 ≡ refused 0 broken)
unfolding handled refusal0 clash
order = (refl, refl, refl)

-- 102 and 104 age nothing and 105 ages once; 117 ages three times, and one locator expires; at 159 the other is kept, after eleven ageings, and at 160, the
-- twelfth, it is DEPRECATED
ticks : map (at 320 begun) (102 ∷ 104 ∷ 105 ∷ 117 ∷ 159 ∷ 160 ∷ [])
    ≡ silent begun
    ∷ silent (with 104 100 1000 Active checked)
    ∷ silent (with 105 105 875 Active checked)
    ∷ silent (with 117 115 669 Active Deprecated)
    ∷ silent (with 159 155 228 Active Deprecated)
    ∷ silent (with 160 160 199 Deprecated Deprecated)
    ∷ []
unfolding handled resent_bytes refusal0 clash aged_by
ticks = refl

-- ---- order 4
-- two checks at 100: one of nonce 7 and Update ID 5, whose locator expires at 160, and one of nonce 9 and Update ID 6, whose locator expires at 117
abbrev two : (issued first second : ℕ) → Association
two issued first second =
    with 102 100 0
    (Unverified (record { nonce = 7; id = 5; issued = issued; resends = first }))
    (Unverified (record { nonce = 9; id = 6; issued = issued; resends = second }))

-- the association at a time, with these statuses
abbrev after : (time aged : ℕ) (first second : Status) → Association
after time aged first second = with time aged 0 first second

abbrev waiting : (nonce id issued resends : ℕ) → Status
waiting nonce id issued resends = Unverified (record { nonce = nonce; id = id; issued = issued; resends = resends })

-- an accepted tick that sends so many bytes again
abbrev sent : (bytes : ℕ) → Association → TickAnswer
sent bytes a = record { outcome = (Ok tt); written = bytes; association = a }

-- issued at 102, and never sent again: ticks at 0, 1, 2, 3, 4, 7, 8, 14 and 15 seconds; "one resend a tick; the count becomes that number". At 117 the second locator
-- expires, "at or past expiry resend nothing for it", and at 118, 16 seconds after issue, the first check is given up
moments : map (at 320 (two 102 0 0)) (102 ∷ 103 ∷ 104 ∷ 105 ∷ 106 ∷ 109 ∷ 110 ∷ 116 ∷ 117 ∷ 118 ∷ 119 ∷ [])
    ≡ sent 0 (after 102 100 (waiting 7 5 102 0) (waiting 9 6 102 0))
    ∷ sent 80 (after 103 100 (waiting 7 5 102 1) (waiting 9 6 102 1))
    ∷ sent 80 (after 104 100 (waiting 7 5 102 2) (waiting 9 6 102 2))
    ∷ sent 80 (after 105 105 (waiting 7 5 102 2) (waiting 9 6 102 2))
    ∷ sent 80 (after 106 105 (waiting 7 5 102 3) (waiting 9 6 102 3))
    ∷ sent 80 (after 109 105 (waiting 7 5 102 3) (waiting 9 6 102 3))
    ∷ sent 80 (after 110 110 (waiting 7 5 102 4) (waiting 9 6 102 4))
    ∷ sent 80 (after 116 115 (waiting 7 5 102 4) (waiting 9 6 102 4))
    ∷ sent 40 (after 117 115 (waiting 7 5 102 4) Deprecated)
    ∷ sent 0 (after 118 115 Deprecated Deprecated)
    ∷ sent 0 (after 119 115 Deprecated Deprecated)
    ∷ []
unfolding handled resent_bytes refusal0 clash aged_by parameter_bytes bytes_of
moments = refl

-- sent again once and three times: a tick at 4 seconds sends the first again and not the second, whose count stays
counts : at 320 (two 102 1 3) 106 ≡ sent 40 (after 106 105 (waiting 7 5 102 3) (waiting 9 6 102 3))
unfolding handled resent_bytes refusal0 clash aged_by parameter_bytes bytes_of
counts = refl

-- the bytes, "in slot order", "with the inbound SPI now held and its first Update ID and nonce", and the bytes past them
bytes : (buffer_after (two 102 0 0) 103 (replicate 320 0xff)
    ≡ hex "0041000c 00000000 00001001 00001001 01810004 00000005 03810008 00000000 00000007 00000000"
    ++ (hex "0041000c 00000000 00001001 00001001 01810004 00000006 03810008 00000000 00000009 00000000"
    ++ replicate 240 0xff))
    × (buffer_after (two 102 1 0) 103 (replicate 320 0xff)
    ≡ hex "0041000c 00000000 00001001 00001001 01810004 00000006 03810008 00000000 00000009 00000000" ++ replicate 280 0xff)
unfolding handled resent_bytes refusal0 clash parameter_bytes bytes_of
bytes = (refl, refl)

-- a tick that is refused, by 0, 23 and 12, writes nothing
unwritten : (buffer_after broken 103 (replicate 320 0xff) ≡ replicate 320 0xff)
    × (buffer_after (two 102 0 0) 103 (replicate 319 0xff) ≡ replicate 319 0xff)
    × (buffer_after (two 102 0 0) 101 (replicate 320 0xff) ≡ replicate 320 0xff)
unfolding handled refusal0 clash
unwritten = (refl, refl, refl)

-- an association with an issue time after the stored time, or a count over 4, is refused with 0
bad_checks_lem : (at 320 (two 103 0 0) 103 ≡ refused 0 (two 103 0 0)) × (at 320 (two 102 0 5) 103 ≡ refused 0 (two 102 0 5))
unfolding handled refusal0 clash
bad_checks_lem = (refl, refl)
