-- Worked examples, computed from the definitions: eight slots at a tick at 108.
use Rattle.std.specs.Prelude.{ℕ, ◌≡◌, refl, true, false, List, [], ◌∷◌, ◌++◌, map, length, replicate}
use Rattle.octets.specs.ExamplesHex.{hex}
use Rattle.octets.specs.Written.{bytes_of}
use Rattle.parameter.specs.Written.{parameter_bytes}
use Rattle.slot.specs.declared.Status.{Status}
use Rattle.slot.specs.declared.Status.TheVariants.{Unverified, Active, Deprecated}
use Rattle.slot.specs.declared.Slot.{Slot}
use Rattle.slot.specs.Found.{empty_slot, slot_of}
use Rattle.resend.specs.Resends.{tick_room, refusal23, resent_bytes, sent_bytes, sent_slots}

-- a slot that holds 2001:db8::n
abbrev held : (n : ℕ) → Status → Slot
held n s = slot_of (record { address = record { high = 0x20010db800000000; low = n }; traffic = 0; expiry = 160; status = s })

-- UNVERIFIED, with a check of these numbers
abbrev checked : (nonce id issued resends : ℕ) → Status
checked nonce id issued resends = Unverified (record { nonce = nonce; id = id; issued = issued; resends = resends })

-- the second, the fourth and the last slot have a check that is due, and the third one that is not
abbrev slots : (second fourth last : ℕ) → List Slot
slots second fourth last =
    held 1 Active
    ∷ held 2 (checked 0x0102030405060708 3 107 second)
    ∷ held 3 (checked 6 4 108 0)
    ∷ held 4 (checked 7 5 100 fourth)
    ∷ empty_slot
    ∷ held 5 Deprecated
    ∷ empty_slot
    ∷ held 6 (checked 8 6 105 last)
    ∷ []

-- "Tick now needs a 320-byte buffer"
room : (tick_room ≡ 320) × (map refusal23 (0 ∷ 319 ∷ 320 ∷ 321 ∷ []) ≡ true ∷ true ∷ false ∷ false ∷ [])
room = (refl, refl)

-- "in slot order, 40 bytes each: the 48-byte form without its ACK, with the inbound SPI now held and its first Update ID and nonce"; one resend, however many
-- moments a check has passed by; the slots' bytes are all there is, whatever was sent before
bytes : (resent_bytes 0x1001 108 (slots 0 3 1)
    ≡ hex "0041000c 00000000 00001001 00001001 01810004 00000003 03810008 01020304 05060708 00000000"
    ++ (hex "0041000c 00000000 00001001 00001001 01810004 00000005 03810008 00000000 00000007 00000000"
    ++ hex "0041000c 00000000 00001001 00001001 01810004 00000006 03810008 00000000 00000008 00000000"))
    × (resent_bytes 0x1002 108 (slots 1 0 2)
    ≡ hex "0041000c 00000000 00001002 00001002 01810004 00000005 03810008 00000000 00000007 00000000")
    × (resent_bytes 0x1001 108 (slots 1 4 2) ≡ [])
    × (resent_bytes 0x1001 108 [] ≡ [])
unfolding resent_bytes parameter_bytes bytes_of
bytes = (refl, refl, refl, refl)

-- eight checks that are due fill the 320 bytes
filled : length (resent_bytes 0x1001 108 (replicate 8 (held 1 (checked 7 5 100 0)))) ≡ 320
unfolding resent_bytes parameter_bytes bytes_of
filled = refl

-- a buffer that is too short takes nothing, and no count moves; one that is not takes all
short : (map (λ (n : ℕ). length (sent_bytes n 0x1001 108 (slots 0 3 1))) (0 ∷ 319 ∷ 320 ∷ []) ≡ 0 ∷ 0 ∷ 120 ∷ [])
    × (map (λ (n : ℕ). sent_slots n 108 (slots 0 3 1)) (0 ∷ 319 ∷ 320 ∷ []) ≡ slots 0 3 1 ∷ slots 0 3 1 ∷ slots 1 4 2 ∷ [])
unfolding resent_bytes parameter_bytes bytes_of
short = (refl, refl)
