-- Runs of calls from a start: an answer that comes too late, one that comes in time, and one to a check that was replaced; a check that is lost and sent again, and
-- one that is given up.
use Rattle.std.specs.Prelude.{ℕ, ◌+◌, ◌≡◌, refl, true, List, [], ◌∷◌, ◌++◌, map, replicate, None, Option, Some}
use Rattle.octets.specs.ExamplesHex.{hex}
use Rattle.refusal.specs.Table.{refusal}
use Rattle.slot.specs.declared.Status.{Status}
use Rattle.slot.specs.declared.Status.TheVariants.{Active, Deprecated}
use Rattle.slot.specs.Found.{empty_slot}
use Rattle.association.specs.declared.Association.{Association}
use Rattle.association.specs.Form.{accepted}
use Rattle.association.specs.Start.{started, start_of}
use Rattle.history.specs.Calls.{Call, message, arrival, send, tick, Answered, refused_by, done, repeated, granted_to, lent_after, Step, step_of, history, after}
use Rattle.history.specs.Ledger.{arrived, granted, ageing, ledger, arrived_in, granted_in}
use Rattle.history.specs.Words.{finds, leaves, retires, outstanding_from, outstanding}
use Rattle.history.specs.ExamplesUnfolded.{calls}
use Rattle.cases.specs.Packets.{address, locator, move_of, reply_of}
use Rattle.cases.specs.Held.{held, issued, checked}

-- ---- the calls
-- the association that the start makes: it holds address 1, ACTIVE
abbrev begun : Association
begun = started 100 0x2001 0x1001 (address 1) 60

-- a message that brings this packet, marked authentic, eight nonces from this one on, and a buffer that is long enough
abbrev brings : (packet : List ℕ) → (nonce : ℕ) → Call
brings packet nonce =
    message packet true (map (λ (k : ℕ). nonce + k) (0 ∷ 1 ∷ 2 ∷ 3 ∷ 4 ∷ 5 ∷ 6 ∷ 7 ∷ [])) refl (replicate 384 0xff)

-- a set of address 1
abbrev one : List (List ℕ)
one = locator 0 0 60 1 ∷ []

-- a set of addresses 1 and 2
abbrev two : List (List ℕ)
two = locator 0 0 60 1 ∷ locator 0 0 60 2 ∷ []

-- a Move by its Update ID, its set and the first nonce that it is offered
abbrev move : (id : ℕ) → (locators : List (List ℕ)) → (nonce : ℕ) → Call
move id locators nonce = brings (move_of 0x2001 0x2001 id locators) nonce

-- the first Move lists address 2, whose check takes nonce 0x51
abbrev first : Call
first = move 0 two 0x51

-- the second lists address 1 alone
abbrev second : Call
second = move 1 one 0x61

-- the third lists address 2 again, whose check takes nonce 0x71
abbrev third : Call
third = move 2 two 0x71

-- the answer to a check: a Reply that echoes its nonce
abbrev answering : (nonce : ℕ) → Call
answering nonce = brings (reply_of nonce) 0x81

-- a tick that is lent what it needs
abbrev tick_at : (time : ℕ) → Call
tick_at time = tick time (replicate 320 0xff)

-- ---- what is asked of them
-- what the calls answer
abbrev answers_of : List Call → List Answered
answers_of cs = map (λ (s : Step). s.answered) (history begun cs)

-- the nonce outstanding for address 2 after the calls
abbrev outstanding_after : List Call → Option ℕ
outstanding_after cs = outstanding (address 2) (history begun cs)

-- the call c after the calls cs
abbrev next : List Call → Call → Step
next cs c = step_of (after begun cs) c

-- ---- what is left
-- after a Move with this Update ID: the next own one, and address 2 with this status
abbrev with : (peer next : ℕ) → Status → Association
with peer next s = record {
  outbound = 0x2001;
  inbound = 0x1001;
  time = 100;
  aged = 100;
  credit = 0;
  peer = Some peer;
  next = next;
  preferred = Some 0;
  slots = held 1 Active ∷ held 2 s ∷ replicate 6 empty_slot;
}

-- after the second Move
abbrev retired : Association
retired = with 1 1 Deprecated

-- UNVERIFIED, with the third Move's check
abbrev renewed : Status
renewed = checked 0x71 1

-- ---- the claims
-- the start is accepted
starts : start_of 100 0x2001 0x1001 (address 1) 60 ≡ accepted begun
unfolding calls
starts = refl

-- the answer comes too late: the second Move retired the address, and the answer finds it DEPRECATED, is refused and changes nothing
too_late : (answers_of (first ∷ second ∷ answering 0x51 ∷ []) ≡ done ∷ done ∷ refused_by (refusal 8) ∷ [])
    × (outstanding_after (first ∷ []) ≡ Some 0x51)
    × (retires (address 2) (after begun (first ∷ [])) second ≡ true)
    × (outstanding_after (first ∷ second ∷ []) ≡ None)
    × (finds (address 2) (next (first ∷ second ∷ []) (answering 0x51)) ≡ Some Deprecated)
    × (leaves (address 2) (next (first ∷ second ∷ []) (answering 0x51)) ≡ Some Deprecated)
    × (after begun (first ∷ second ∷ []) ≡ retired)
    × (after begun (first ∷ second ∷ answering 0x51 ∷ []) ≡ retired)
unfolding calls history after outstanding_from
too_late = (refl, refl, refl, refl, refl, refl, refl, refl)

-- the answer comes in time: the address becomes ACTIVE, and no nonce is outstanding any more
in_time : (answers_of (first ∷ answering 0x51 ∷ []) ≡ done ∷ done ∷ [])
    × (finds (address 2) (next (first ∷ []) (answering 0x51)) ≡ Some (checked 0x51 0))
    × (leaves (address 2) (next (first ∷ []) (answering 0x51)) ≡ Some Active)
    × (outstanding_after (first ∷ answering 0x51 ∷ []) ≡ None)
unfolding calls history after outstanding_from
in_time = (refl, refl, refl, refl)

-- the check was replaced: the answer to the first check is refused and changes nothing, and the answer to the new one makes the address ACTIVE
replaced : (answers_of (first ∷ second ∷ third ∷ answering 0x51 ∷ answering 0x71 ∷ []) ≡ done ∷ done ∷ done ∷ refused_by (refusal 8) ∷ done ∷ [])
    × (outstanding_after (first ∷ second ∷ third ∷ []) ≡ Some 0x71)
    × (after begun (first ∷ second ∷ third ∷ []) ≡ with 2 2 renewed)
    × (after begun (first ∷ second ∷ third ∷ answering 0x51 ∷ []) ≡ with 2 2 renewed)
    × (after begun (first ∷ second ∷ third ∷ answering 0x51 ∷ answering 0x71 ∷ []) ≡ with 2 2 Active)
    × (leaves (address 2) (next (first ∷ second ∷ third ∷ answering 0x51 ∷ []) (answering 0x71)) ≡ Some Active)
unfolding calls history after outstanding_from
replaced = (refl, refl, refl, refl, refl, refl)

-- "Start at ID none, Move 0 accepted; Move 0 again Repeated; after Move 5, Move 4 gives 7."
update_ids : answers_of (move 0 one 0x51 ∷ move 0 one 0x51 ∷ move 5 one 0x51 ∷ move 4 one 0x51 ∷ [])
    ≡ done ∷ repeated ∷ done ∷ refused_by (refusal 7) ∷ []
unfolding calls history
update_ids = refl

-- ---- order 4
-- the buffer that a tick at this time leaves, after the calls
abbrev resent_at : List Call → (time : ℕ) → List (List ℕ)
resent_at cs time = lent_after (after begun cs) (tick_at time)

-- the first Move's check, sent again
abbrev again : List (List ℕ)
again = (hex "0041000c 00000000 00001001 00001001 01810004 00000000 03810008 00000000 00000051 00000000" ++ replicate 280 0xff) ∷ []

-- nothing is sent again
abbrev silence : List (List ℕ)
silence = replicate 320 0xff ∷ []

-- the check is lost, and sent again at 101, with its Update ID and nonce; at 101 not a second time; at 105, after the moments at 2 and 4 seconds, once; at 108 for the
-- last time; and the answer to a resend makes the address ACTIVE
lost : (resent_at (first ∷ []) 101 ≡ again)
    × (resent_at (first ∷ tick_at 101 ∷ []) 101 ≡ silence)
    × (resent_at (first ∷ tick_at 101 ∷ []) 105 ≡ again)
    × (leaves (address 2) (next (first ∷ tick_at 101 ∷ []) (tick_at 105)) ≡ Some (issued 0x51 0 100 3))
    × (resent_at (first ∷ tick_at 101 ∷ tick_at 105 ∷ []) 107 ≡ silence)
    × (resent_at (first ∷ tick_at 101 ∷ tick_at 105 ∷ []) 108 ≡ again)
    × (resent_at (first ∷ tick_at 108 ∷ []) 115 ≡ silence)
    × (leaves (address 2) (next (first ∷ tick_at 101 ∷ []) (answering 0x51)) ≡ Some Active)
    × (resent_at (first ∷ answering 0x51 ∷ []) 101 ≡ silence)
unfolding calls history after
lost = (refl, refl, refl, refl, refl, refl, refl, refl, refl)

-- "step 3 keeps" the check, with its issue time and its count: a Move at 101 that lists the address leaves them, and at 108 the check is sent again
kept : (leaves (address 2) (next (first ∷ tick_at 101 ∷ []) third) ≡ Some (issued 0x51 0 100 1)) × (resent_at (first ∷ tick_at 101 ∷ third ∷ []) 108 ≡ again)
unfolding calls history after
kept = (refl, refl)

-- given up at 116, and nothing is sent again then; the answer is too late; a Move that lists the address brings a new check, of the next Update ID and the time of that
-- tick
ended : (leaves (address 2) (next (first ∷ tick_at 108 ∷ []) (tick_at 115)) ≡ Some (issued 0x51 0 100 4))
    × (leaves (address 2) (next (first ∷ []) (tick_at 116)) ≡ Some Deprecated)
    × (resent_at (first ∷ []) 116 ≡ silence)
    × (answers_of (first ∷ tick_at 116 ∷ answering 0x51 ∷ third ∷ []) ≡ done ∷ done ∷ refused_by (refusal 8) ∷ done ∷ [])
    × (leaves (address 2) (next (first ∷ tick_at 116 ∷ []) third) ≡ Some (issued 0x71 1 116 0))
unfolding calls history after
ended = (refl, refl, refl, refl, refl)

-- ---- the credit
-- 1,000 bytes arrive; a new SPI leaves address 1 UNVERIFIED; sends and ticks follow
abbrev spending : List Call
spending = arrival 1000 ∷ brings (move_of 0x2001 0x2002 0 one) 0x51 ∷ send 1000 ∷ send 100 ∷ tick_at 104 ∷ tick_at 115 ∷ send 500 ∷ send 102 ∷ []

-- what they put in the ledger: a refused send and a tick that ages nothing put nothing, and one 15 seconds after the last ageing three ageings. Of 1,000 bytes
-- that arrived 600 were granted, and after the ageings 102 are left, which do not cover 102
spent : (answers_of spending
    ≡ done ∷ done ∷ refused_by (refusal 15) ∷ granted_to 0 ∷ done ∷ done ∷ granted_to 0 ∷ refused_by (refusal 15) ∷ [])
    × (ledger 100 (history begun spending) ≡ arrived 1000 ∷ granted 100 ∷ ageing ∷ ageing ∷ ageing ∷ granted 500 ∷ [])
    × (granted_in (ledger 100 (history begun spending)) ≡ 600)
    × (arrived_in (ledger 100 (history begun spending)) ≡ 1000)
    × ((after begun spending).credit ≡ 102)
unfolding calls history after ledger arrived_in granted_in
spent = (refl, refl, refl, refl, refl)
