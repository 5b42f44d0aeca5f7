-- Worked examples, computed from the definitions: each word of demands 1 and 3 on calls and runs that tell it from its neighbours.
use Rattle.std.specs.Prelude.{ℕ, ◌+◌, ◌≡◌, refl, Bool, true, false, List, [], ◌∷◌, ◌++◌, map, replicate, Err, None, Ok, Option, Some}
use Prim.Native.String.{String}
use Rattle.refusal.specs.Table.{refusal}
use Rattle.octets.specs.ExamplesHex.{hex}
use Rattle.address.specs.declared.Address.{Address}
use Rattle.slot.specs.declared.Status.{Status}
use Rattle.slot.specs.declared.Status.TheVariants.{Unverified, Active, Deprecated}
use Rattle.slot.specs.declared.Slot.{Slot}
use Rattle.slot.specs.Found.{empty_slot, slot_of}
use Rattle.association.specs.declared.Association.{Association}
use Rattle.update.specs.declared.Received.TheVariants.{Moved, Repeated, Replied}
use Rattle.history.specs.Calls.{Call, message, arrival, send, tick, refused_by, done, repeated, granted_to, of_outcome, of_send, of_message, answers, returned, lent, lent_after, is_accepted, is_repeat, step_of, history, after}
use Rattle.history.specs.Ledger.{Entry, arrived, granted, ageing, entries_of, last_of, ledger, held, credit_held, arrived_in, granted_in, ageings_in, NoArrival}
use Rattle.history.specs.Words.{finds, leaves, is_authentic, echoed, lists, retires, taken, outstanding}
use Rattle.history.specs.Demand.{ledger_of, next}
use Rattle.history.specs.ExamplesUnfolded.{sequences}

-- ---- packets in hex
-- a packet with this header length
abbrev pub packet : (h : ℕ) → (parameters : List ℕ) → List ℕ
packet h parameters = 0x3b ∷ h ∷ 0x10 ∷ 0x21 ∷ replicate 36 0 ++ parameters

-- ESP_INFO from the SPI 0x2001 to this one, SEQ, ECHO_RESPONSE_SIGNED
abbrev esp : (new : String) → List ℕ
esp new = hex "0041000c 00000000 00002001" ++ hex new

abbrev seq : (id : String) → List ℕ
seq id = hex "01810004" ++ hex id

abbrev echo : (nonce : String) → List ℕ
echo nonce = hex "03c10008 00000000" ++ (hex nonce ++ hex "00000000")

-- LOCATOR_SET of address 1, and of addresses 1 and 2, for 60 seconds
abbrev one : List ℕ
one = hex "00c10018 00000400 0000003c 20010db8 00000000 00000000 00000001 00000000"

abbrev two : List ℕ
two = hex "00c10030 00000400 0000003c 20010db8 00000000 00000000 00000001" ++ hex "00000400 0000003c 20010db8 00000000 00000000 00000002 00000000"

-- a Move by its NEW SPI and Update ID, that lists address 1; addresses 1 and 2; these, and echoes a nonce
abbrev move_one : (new id : String) → List ℕ
move_one new id = packet 11 (esp new ++ (one ++ seq id))

abbrev pub move_two : (new id : String) → List ℕ
move_two new id = packet 14 (esp new ++ (two ++ seq id))

abbrev pub echoing_one : (new id nonce : String) → List ℕ
echoing_one new id nonce = packet 13 (esp new ++ (one ++ (seq id ++ echo nonce)))

abbrev pub echoing_two : (new id nonce : String) → List ℕ
echoing_two new id nonce = packet 16 (esp new ++ (two ++ (seq id ++ echo nonce)))

-- a Reply, one whose echo response has another length, and a packet that refusal 3 refuses
abbrev pub reply : (nonce : String) → List ℕ
reply nonce = packet 6 (echo nonce)

abbrev short_reply : List ℕ
short_reply = packet 5 (hex "03c10004 00000051")

abbrev pub malformed : List ℕ
malformed = packet 7 (echo "00000051")

-- ---- calls
-- a message with eight nonces from this one on
abbrev pub marked : Bool → (packet : List ℕ) → (nonce : ℕ) → Call
marked authentic packet nonce = message packet authentic (map (λ (k : ℕ). nonce + k) (0 ∷ 1 ∷ 2 ∷ 3 ∷ 4 ∷ 5 ∷ 6 ∷ 7 ∷ [])) refl (replicate 384 0)

-- marked authentic
abbrev pub brings : (packet : List ℕ) → (nonce : ℕ) → Call
brings packet nonce = marked true packet nonce

-- a tick with a buffer of 320 bytes
abbrev pub tick_at : (time : ℕ) → Call
tick_at time = tick time (replicate 320 0)

-- the first Move lists addresses 1 and 2, and address 2 takes nonce 0x51; the second lists address 1 alone; the third lists both, and
-- address 2 takes nonce 0x71 where the second retired it
abbrev pub first : Call
first = brings (move_two "00002001" "00000000") 0x51

abbrev pub second : Call
second = brings (move_one "00002001" "00000001") 0x61

abbrev pub third : Call
third = brings (move_two "00002001" "00000002") 0x71

-- a Move of both addresses with a new SPI: address 1 takes nonce 0x61 and address 2 takes 0x62
abbrev pub rebinding : Call
rebinding = brings (move_two "00002002" "00000001") 0x61

-- the answer to a check
abbrev pub answering : (nonce : String) → Call
answering nonce = brings (reply nonce) 0x81

-- ---- associations
abbrev pub address : (n : ℕ) → Address
address n = record { high = 0x20010db800000000; low = n }

-- a slot that holds address n until this time
abbrev until : (expiry n : ℕ) → Status → Slot
until expiry n s = slot_of (record { address = address n; traffic = 0; expiry = expiry; status = s })

-- UNVERIFIED, with this check, issued at 102
abbrev waiting : (nonce id : ℕ) → Status
waiting nonce id = Unverified (record { nonce = nonce; id = id; issued = 102; resends = 0 })

-- at 102, where the last ageing was at 100
abbrev with : (credit next : ℕ) → Option ℕ → List Slot → Association
with credit next peer slots = record {
  outbound = 0x2001;
  inbound = 0x1001;
  time = 102;
  aged = 100;
  credit = credit;
  peer = peer;
  next = next;
  preferred = Some 0;
  slots = slots;
}

-- address 1 is ACTIVE, and nothing else is held
abbrev pub begun : Association
begun = with 0 0 None (until 160 1 Active ∷ replicate 7 empty_slot)

-- after the first Move
abbrev pub moved : Association
moved = with 0 1 (Some 0) (until 162 1 Active ∷ until 162 2 (waiting 0x51 0) ∷ replicate 6 empty_slot)

-- a slot of each status, and an empty one
abbrev mixed : Association
mixed = with 500 1 (Some 0) (until 160 1 Active ∷ until 160 2 (waiting 0x51 0) ∷ until 160 3 Deprecated ∷ replicate 5 empty_slot)

-- ---- what calls answer and return
-- what each outcome says; "Accepted: answered without a refusal number", "A repeat is answered Repeated."
outcomes : (map of_outcome (Ok tt ∷ Err (refusal 12) ∷ []) ≡ done ∷ refused_by (refusal 12) ∷ [])
    × (map of_send (Ok 3 ∷ Err (refusal 15) ∷ []) ≡ granted_to 3 ∷ refused_by (refusal 15) ∷ [])
    × (map of_message (Ok Moved ∷ Ok Replied ∷ Ok Repeated ∷ Err (refusal 8) ∷ []) ≡ done ∷ done ∷ repeated ∷ refused_by (refusal 8) ∷ [])
    × (map is_accepted (done ∷ repeated ∷ granted_to 0 ∷ refused_by (refusal 0) ∷ []) ≡ true ∷ true ∷ true ∷ false ∷ [])
    × (map is_repeat (done ∷ repeated ∷ granted_to 0 ∷ refused_by (refusal 0) ∷ []) ≡ false ∷ true ∷ false ∷ false ∷ [])
outcomes = (refl, refl, refl, refl, refl)

-- the buffers that calls are lent, and after them: the reply to the first Move has a check for address 2, which a tick a second later sends again; a message that
-- is not authentic is refused, and so are a tick before the stored time and one with 319 bytes
buffers : let calls = first ∷ marked false (move_two "00002001" "00000000") 0x51 ∷ arrival 5 ∷ send 5 ∷ tick_at 103 ∷ [] in
    (map lent calls ≡ (replicate 384 0 ∷ []) ∷ (replicate 384 0 ∷ []) ∷ [] ∷ [] ∷ (replicate 320 0 ∷ []) ∷ [])
    × (map (lent_after begun) calls
    ≡ ((hex "0041000c 00000000 00001001 00001001 01810004 00000000 01c10004 00000000 03810008 00000000 00000051 00000000" ++ replicate 336 0) ∷ [])
    ∷ (replicate 384 0 ∷ [])
    ∷ [] ∷ [] ∷ (replicate 320 0 ∷ []) ∷ [])
    × (map (lent_after moved) (tick_at 103 ∷ tick_at 101 ∷ tick 103 (replicate 319 0) ∷ [])
    ≡ ((hex "0041000c 00000000 00001001 00001001 01810004 00000000 03810008 00000000 00000051 00000000" ++ replicate 280 0) ∷ [])
    ∷ (replicate 320 0 ∷ [])
    ∷ (replicate 319 0 ∷ [])
    ∷ [])
unfolding sequences
buffers = (refl, refl, refl)

-- each call, accepted and refused: a refused one changes nothing, and neither does a repeat
made : (map (answers begun) (first ∷ marked false (reply "00000051") 1 ∷ arrival 5 ∷ arrival 0 ∷ send 5 ∷ send 0 ∷ tick_at 103 ∷ tick_at 101 ∷ [])
    ≡ done ∷ refused_by (refusal 2) ∷ done ∷ refused_by (refusal 13) ∷ granted_to 0 ∷ refused_by (refusal 13) ∷ done ∷ refused_by (refusal 12) ∷ [])
    × (map (returned begun) (first ∷ marked false (reply "00000051") 1 ∷ arrival 5 ∷ arrival 0 ∷ send 5 ∷ send 0 ∷ tick_at 102 ∷ tick_at 101 ∷ [])
    ≡ moved ∷ begun ∷ with 5 0 None (until 160 1 Active ∷ replicate 7 empty_slot) ∷ replicate 5 begun)
    × (answers moved first ≡ repeated)
    × (returned moved first ≡ moved)
    × ((returned moved (tick_at 104)).time ≡ 104)
unfolding sequences
made = (refl, refl, refl, refl, refl)

-- a sequence: each call is handed what the one before it returned
in_turn : (history begun (first ∷ first ∷ arrival 0 ∷ [])
    ≡ record { found = begun; call = first; answered = done; left = moved }
    ∷ record { found = moved; call = first; answered = repeated; left = moved }
    ∷ record { found = moved; call = arrival 0; answered = refused_by (refusal 13); left = moved }
    ∷ [])
    × (after begun [] ≡ begun)
    × (after begun (first ∷ arrival 0 ∷ []) ≡ moved)
    × (step_of begun first ≡ record { found = begun; call = first; answered = done; left = moved })
    × (next begun (first ∷ []) (arrival 0) ≡ record { found = moved; call = arrival 0; answered = refused_by (refusal 13); left = moved })
unfolding sequences
in_turn = (refl, refl, refl, refl, refl)

-- ---- the ledger
-- "Granted to UNVERIFIED: the size of a granted send that finds the address it picks UNVERIFIED.": of the four slots of `mixed`; of no grant
grants : (map (λ (n : ℕ). entries_of 100 mixed (send 7) (granted_to n)) (0 ∷ 1 ∷ 2 ∷ 3 ∷ 8 ∷ []) ≡ [] ∷ (granted 7 ∷ []) ∷ [] ∷ [] ∷ [] ∷ [])
    × (map (entries_of 100 mixed (send 7)) (refused_by (refusal 15) ∷ done ∷ repeated ∷ []) ≡ replicate 3 [])
grants = (refl, refl)

-- an accepted arrival, a tick 5 seconds after the last ageing, one before that and one 17 seconds after it; refused ones put nothing in the ledger, and a message
-- never does
entries : (map (entries_of 100 begun (arrival 7)) (done ∷ refused_by (refusal 13) ∷ []) ≡ (arrived 7 ∷ []) ∷ [] ∷ [])
    × (map (entries_of 100 begun (tick_at 105)) (done ∷ refused_by (refusal 12) ∷ []) ≡ (ageing ∷ []) ∷ [] ∷ [])
    × (map (λ (t : ℕ). entries_of 100 begun (tick_at t) done) (104 ∷ 117 ∷ []) ≡ [] ∷ replicate 3 ageing ∷ [])
    × (map (entries_of 100 begun first) (done ∷ repeated ∷ refused_by (refusal 2) ∷ []) ≡ replicate 3 [])
entries = (refl, refl, refl, refl)

-- the last ageing moves by an accepted tick alone, and only by one that ages
last_ageings : (map (λ (c : Call). last_of 100 c done) (tick_at 104 ∷ tick_at 105 ∷ tick_at 117 ∷ first ∷ arrival 7 ∷ send 7 ∷ [])
    ≡ 100 ∷ 105 ∷ 115 ∷ 100 ∷ 100 ∷ 100 ∷ [])
    × (last_of 100 (tick_at 117) (refused_by (refusal 12)) ≡ 100)
last_ageings = (refl, refl)

-- "reckoned from the time of last ageing held at the sequence's beginning", 100, "and from the accepted ticks' times": the ticks at 104 and 109 age
-- nothing, those at 105 and 110 do, and one at 106 that is refused does not count; one at 117 ages three times, and what it leaves counts at 120
ledgers : (ledger_of begun (tick_at 104 ∷ tick_at 105 ∷ arrival 9 ∷ tick_at 109 ∷ tick_at 106 ∷ tick_at 110 ∷ []) ≡ ageing ∷ arrived 9 ∷ ageing ∷ [])
    × (ledger 103 (history begun (tick_at 105 ∷ tick_at 107 ∷ tick_at 108 ∷ [])) ≡ ageing ∷ [])
    × (ledger_of begun (tick_at 117 ∷ arrival 8 ∷ tick_at 119 ∷ arrival 9 ∷ tick_at 120 ∷ []) ≡ ageing ∷ ageing ∷ ageing ∷ arrived 8 ∷ arrived 9 ∷ ageing ∷ [])
    × (ledger_of begun [] ≡ [])
unfolding sequences
ledgers = (refl, refl, refl, refl)

-- a ledger with two of each
abbrev book : List Entry
book = arrived 1000 ∷ granted 300 ∷ ageing ∷ granted 12 ∷ arrived 5 ∷ ageing ∷ []

-- 1,000; 700; 612; 600; 605; 529. The sums count their own entries
sums : (credit_held book ≡ 529)
    × (map (λ (c : ℕ). held c (arrived 1500 ∷ [])) (10 ∷ 1048000 ∷ []) ≡ 1510 ∷ 1048576 ∷ [])
    × (map (λ (c : ℕ). held c (granted 12 ∷ [])) (1000 ∷ 12 ∷ []) ≡ 988 ∷ 0 ∷ [])
    × (held 10 [] ≡ 10)
    × (arrived_in book ∷ granted_in book ∷ ageings_in book ∷ [] ≡ 1005 ∷ 312 ∷ 2 ∷ [])
    × (arrived_in [] ∷ granted_in [] ∷ ageings_in [] ∷ [] ≡ 0 ∷ 0 ∷ 0 ∷ [])
unfolding sequences
sums = (refl, refl, refl, refl, refl, refl)

-- "with no accepted arrival among them": grants and ageings may be
quiet : NoArrival [] × NoArrival (granted 5 ∷ ageing ∷ granted 7 ∷ [])
unfolding sequences
quiet = (tt, tt)

not_quiet : (NoArrival (arrived 5 ∷ []) → ⊥) × (NoArrival (granted 5 ∷ ageing ∷ arrived 5 ∷ []) → ⊥)
unfolding sequences
not_quiet = (λ among. among, λ among. among)

-- ---- words about one address
-- "Finds and leaves": addresses 1 to 3 about the second Move, which retires address 2
found_and_left : (map (λ (n : ℕ). finds (address n) (step_of moved second)) (1 ∷ 2 ∷ 3 ∷ []) ≡ Some Active ∷ Some (waiting 0x51 0) ∷ None ∷ [])
    × (map (λ (n : ℕ). leaves (address n) (step_of moved second)) (1 ∷ 2 ∷ 3 ∷ []) ≡ Some Active ∷ Some Deprecated ∷ None ∷ [])
unfolding sequences
found_and_left = (refl, refl)

-- "marked authentic": messages with the mark and without it, and no other call
authentic : (map (λ (mark : Bool). is_authentic (marked mark (reply "00000051") 1)) (true ∷ false ∷ []) ≡ true ∷ false ∷ [])
    × (map is_authentic (arrival 1 ∷ send 1 ∷ tick_at 103 ∷ []) ≡ replicate 3 false)
authentic = (refl, refl)

-- the nonce that a call echoes: a Move, a Reply; none where there is no echo response of 8 bytes, in a packet that is refused, and in another call
echoes : (map (λ (s : List ℕ). echoed (brings s 1))
    (echoing_one "00002001" "00000001" "00000051" ∷ reply "00000052" ∷ move_one "00002001" "00000001" ∷ short_reply ∷ malformed ∷ [])
    ≡ Some 0x51 ∷ Some 0x52 ∷ None ∷ None ∷ None ∷ [])
    × (map echoed (arrival 1 ∷ send 1 ∷ tick_at 103 ∷ []) ≡ replicate 3 None)
unfolding sequences
echoes = (refl, refl)

-- the addresses that a call lists: of 1, 2 and 3 a Move of address 1, a Move of both; no other call lists any
listing : (map (λ (n : ℕ). lists (address n) second) (1 ∷ 2 ∷ 3 ∷ []) ≡ true ∷ false ∷ false ∷ [])
    × (map (λ (n : ℕ). lists (address n) first) (1 ∷ 2 ∷ 3 ∷ []) ≡ true ∷ true ∷ false ∷ [])
    × (map (lists (address 1)) (answering "00000051" ∷ brings malformed 1 ∷ arrival 1 ∷ send 1 ∷ tick_at 103 ∷ []) ≡ replicate 5 false)
    × (lists (record { high = 0; low = 0 }) first ≡ false)
unfolding sequences
listing = (refl, refl, refl, refl)

-- "A Move retires an address if NEW SPI is not the outbound SPI it finds, or its set lacks the address. A Reply retires none.": of addresses 1 and
-- 2 the Moves of both and of address 1, and the Move of both with a new SPI; no other call
retiring : (map (λ (c : Call). retires (address 1) moved c) (third ∷ second ∷ rebinding ∷ []) ≡ false ∷ false ∷ true ∷ [])
    × (map (λ (c : Call). retires (address 2) moved c) (third ∷ second ∷ rebinding ∷ []) ≡ false ∷ true ∷ true ∷ [])
    × (map (retires (address 2) moved) (answering "00000051" ∷ brings malformed 1 ∷ arrival 1 ∷ send 1 ∷ tick_at 103 ∷ []) ≡ replicate 5 false)
unfolding sequences
retiring = (refl, refl, refl)

-- "the one taken for it by the .. accepted Move that gave it a check": by the first Move address 2; by one with a new SPI both; a repeat, a refused
-- Move and other calls give none
takes : (map (λ (n : ℕ). taken (address n) begun first done) (1 ∷ 2 ∷ 3 ∷ []) ≡ None ∷ Some 0x51 ∷ None ∷ [])
    × (map (λ (n : ℕ). taken (address n) moved rebinding done) (1 ∷ 2 ∷ 3 ∷ []) ≡ Some 0x61 ∷ Some 0x62 ∷ None ∷ [])
    × (map (taken (address 2) begun first) (repeated ∷ refused_by (refusal 2) ∷ []) ≡ None ∷ None ∷ [])
    × (map (λ (c : Call). taken (address 2) begun c done) (answering "00000051" ∷ brings malformed 1 ∷ arrival 1 ∷ send 1 ∷ tick_at 103 ∷ [])
    ≡ replicate 5 None)
unfolding sequences
takes = (refl, refl, refl, refl)

-- the nonce outstanding for address 2 after calls
abbrev outstanding_after : List Call → Option ℕ
outstanding_after cs = outstanding (address 2) (history begun cs)

-- it stays through calls that leave the address UNVERIFIED, also a repeat that offers other nonces, a Move that lists it and a refused one; it goes
-- with a Move that does not list it, its answer, and a tick that gives its check up; a Move that gives a new check brings another
pending : (map outstanding_after
    ((first ∷ [])
    ∷ (first ∷ arrival 9 ∷ send 5 ∷ tick_at 103 ∷ tick_at 117 ∷ [])
    ∷ (first ∷ brings (move_two "00002001" "00000000") 0x91 ∷ [])
    ∷ (first ∷ third ∷ [])
    ∷ (first ∷ answering "00000052" ∷ [])
    ∷ [])
    ≡ replicate 5 (Some 0x51))
    × (map outstanding_after ([] ∷ (first ∷ second ∷ []) ∷ (first ∷ answering "00000051" ∷ []) ∷ (first ∷ tick_at 118 ∷ []) ∷ []) ≡ replicate 4 None)
    × (map outstanding_after ((first ∷ second ∷ third ∷ []) ∷ (first ∷ rebinding ∷ []) ∷ []) ≡ Some 0x71 ∷ Some 0x62 ∷ [])
    × (outstanding (address 1) (history begun (first ∷ rebinding ∷ [])) ≡ Some 0x61)
unfolding sequences
pending = (refl, refl, refl, refl)
