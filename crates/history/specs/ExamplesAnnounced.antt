-- Worked examples, computed from the definitions: each word of demands 1 and 3 on an announcement and on a Check, which order 1 brings.
use Rattle.std.specs.Prelude.{ℕ, ◌≡◌, refl, true, false, List, [], ◌∷◌, ◌++◌, map, replicate, None, Ok, Option, Some}
use Rattle.refusal.specs.Table.{refusal}
use Rattle.octets.specs.ExamplesHex.{hex}
use Rattle.association.specs.declared.Association.{Association}
use Rattle.announcement.specs.declared.OwnLocator.{OwnLocator}
use Rattle.update.specs.declared.Received.TheVariants.{Responded}
use Rattle.history.specs.Calls.{Call, arrival, announce, refused_by, done, repeated, of_message, answers, returned, lent, lent_after, history, after}
use Rattle.history.specs.Ledger.{arrived, entries_of, last_of}
use Rattle.history.specs.Words.{is_authentic, echoed, lists, retires, taken, outstanding}
use Rattle.history.specs.Demand.{ledger_of}
use Rattle.history.specs.Examples.{packet, brings, first, address, begun}
use Rattle.history.specs.ExamplesUnfolded.{sequences}

-- our address 2 for 60 seconds, without P
abbrev own : OwnLocator
own = record { address = address 2; lifetime = 60; kind = 0; traffic = 0; preferred = false }

-- an announcement of so many entries of our list, with the new inbound SPI 0x1002 and KEYMAT Index 3, into this buffer
abbrev announcing : (count : ℕ) → (buffer : List ℕ) → Call
announcing count buffer = announce (replicate 8 own) count 0x1002 3 buffer

-- it fits into 56 bytes
abbrev pub accepts : Call
accepts = announcing 1 (replicate 57 0xee)

-- it is refused by 21
abbrev pub refuses : Call
refuses = announcing 1 (replicate 55 0xee)

-- a Check of Update ID 1 with the opaque bytes aabb
abbrev pub check : Call
check = brings (packet 6 (hex "01810004 00000001" ++ hex "03810002 aabb0000")) 0x91

-- ---- what they answer and return
-- an association with this inbound SPI, highest Update ID and next own one, else as `begun`
abbrev with : (inbound : ℕ) → Option ℕ → (next : ℕ) → Association
with inbound peer next = record {
  outbound = begun.outbound;
  inbound = inbound;
  time = begun.time;
  aged = begun.aged;
  credit = begun.credit;
  peer = peer;
  next = next;
  preferred = begun.preferred;
  slots = begun.slots;
}

made : (map (answers begun) (accepts ∷ refuses ∷ announcing 0 [] ∷ check ∷ []) ≡ done ∷ refused_by (refusal 21) ∷ refused_by (refusal 17) ∷ done ∷ [])
    × (map (returned begun) (accepts ∷ refuses ∷ check ∷ []) ≡ with 0x1002 None 1 ∷ begun ∷ with 0x1001 (Some 1) 0 ∷ [])
    × (answers (after begun (check ∷ [])) check ≡ repeated)
    × (returned (after begun (check ∷ [])) check ≡ after begun (check ∷ []))
    × (of_message (Ok Responded) ≡ done)
unfolding sequences
made = (refl, refl, refl, refl, refl)

-- the buffers that they are lent, and after them: ESP_INFO, LOCATOR_SET and SEQ, and the byte after them as it was; a refused one writes nothing; a Check
-- is answered the same where it is Repeated
buffers : (map lent (accepts ∷ refuses ∷ check ∷ []) ≡ (replicate 57 0xee ∷ []) ∷ (replicate 55 0xee ∷ []) ∷ (replicate 384 0 ∷ []) ∷ [])
    × (map (lent_after begun) (accepts ∷ refuses ∷ check ∷ [])
    ≡ ((hex "0041000c 00000003 00001001 00001002" ++ (hex "00c10018 00000400 0000003c 20010db8 00000000 00000000 00000002 00000000" ++ hex "01810004 00000000 ee")) ∷ [])
    ∷ (replicate 55 0xee ∷ [])
    ∷ ((hex "01c10004 00000001 03c10002 aabb0000" ++ replicate 368 0) ∷ [])
    ∷ [])
    × (lent_after (after begun (check ∷ [])) check ≡ lent_after begun check)
unfolding sequences
buffers = (refl, refl, refl)

-- ---- the words
-- they put nothing in the ledger and move no last ageing
entries : (map (λ (c : Call). entries_of 100 begun c done) (accepts ∷ check ∷ []) ≡ [] ∷ [] ∷ [])
    × (map (λ (c : Call). last_of 100 c done) (accepts ∷ check ∷ []) ≡ 100 ∷ 100 ∷ [])
    × (ledger_of begun (accepts ∷ arrival 9 ∷ check ∷ refuses ∷ []) ≡ arrived 9 ∷ [])
unfolding sequences
entries = (refl, refl, refl)

-- an announcement is not marked authentic, and a Check is a message; they echo, list, retire and take nothing, also of an address that is announced
words : (map is_authentic (accepts ∷ check ∷ []) ≡ false ∷ true ∷ [])
    × (map echoed (accepts ∷ check ∷ []) ≡ None ∷ None ∷ [])
    × (map (lists (address 2)) (accepts ∷ check ∷ []) ≡ false ∷ false ∷ [])
    × (map (retires (address 2) begun) (accepts ∷ check ∷ []) ≡ false ∷ false ∷ [])
    × (map (λ (c : Call). taken (address 2) begun c done) (accepts ∷ check ∷ []) ≡ None ∷ None ∷ [])
unfolding sequences
words = (refl, refl, refl, refl, refl)

-- a nonce that is outstanding stays so through both
pending : outstanding (address 2) (history begun (first ∷ accepts ∷ check ∷ refuses ∷ [])) ≡ Some 0x51
unfolding sequences
pending = refl
