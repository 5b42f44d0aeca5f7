-- What the claims of demands 1 and 3 say of single runs: each part of them, used on a run where it says something, and each condition of a call that verifies
-- an address, where it is the one that fails.
use Rattle.std.specs.Prelude.{◌≤◌, ◌≡◌, refl, true, false, ◌≢◌, List, [], ◌∷◌, replicate, None, Some}
use Rattle.std.proofs.Common.{inl, inr}
use Rattle.refusal.specs.Table.{refusal}
use Rattle.slot.specs.declared.Status.TheVariants.{Active, Deprecated}
use Rattle.association.specs.declared.Association.{Association}
use Rattle.association.specs.Form.{refusal0}
use Rattle.history.specs.Calls.{Call, arrival, send, Answered, refused_by, done, repeated, returned, lent_after, Step, step_of, history, after}
use Rattle.history.specs.Ledger.{arrived, granted, ageing}
use Rattle.history.specs.Words.{leaves}
use Rattle.history.specs.Demand.{Demand1, Verifies, Demand3, next}
use Rattle.history.specs.Examples.{echoing_one, echoing_two, move_two, reply, marked, brings, tick_at, first, second, answering, address, begun}
use Rattle.history.specs.ExamplesUnfolded.{sequences}

-- ---- a call that verifies
-- address 2 has nonce 0x51 outstanding
abbrev before : List Step
before = history begun (first ∷ [])

-- such a call, with this answer
abbrev answered : Call → Answered → Step
answered c r = record { found = after begun (first ∷ []); call = c; answered = r; left = after begun (first ∷ c ∷ []) }

-- a Reply and a Move that echo the nonce verify the address
verify : Verifies (address 2) before (next begun (first ∷ []) (answering "00000051"))
    × Verifies (address 2) before (next begun (first ∷ []) (brings (echoing_two "00002001" "00000001" "00000051") 0x61))
unfolding sequences
verify = (
  record { authentic = refl; accepted = refl; not_a_repeat = refl; nonce = 0x51; echoes = refl; outstanding_then = refl; not_retired = refl },
  record { authentic = refl; accepted = refl; not_a_repeat = refl; nonce = 0x51; echoes = refl; outstanding_then = refl; not_retired = refl },
)

-- "an accepted message, marked authentic and not a repeat": without the mark, refused, or a repeat it does not
unmarked : Verifies (address 2) before (answered (marked false (reply "00000051") 0x81) done) → false ≡ true
unmarked v = v.authentic

refused : Verifies (address 2) before (answered (answering "00000051") (refused_by (refusal 8))) → false ≡ true
refused v = v.accepted

repeats : Verifies (address 2) before (answered (answering "00000051") repeated) → true ≡ false
repeats v = v.not_a_repeat

-- "that echoes the nonce outstanding for that address at that moment": another nonce, none, and a nonce when none is outstanding do not
other_nonce : (v : Verifies (address 2) before (answered (answering "00000052") done)) → (Some 0x52 ≡ Some v.nonce) × (Some 0x51 ≡ Some v.nonce)
unfolding sequences
other_nonce v = (v.echoes, v.outstanding_then)

no_nonce : (v : Verifies (address 2) before (answered (brings (move_two "00002001" "00000001") 0x61) done)) → None ≡ Some v.nonce
unfolding sequences
no_nonce v = v.echoes

none_outstanding : (v : Verifies (address 2) (history begun (first ∷ second ∷ [])) (answered (answering "00000051") done)) → None ≡ Some v.nonce
unfolding sequences
none_outstanding v = v.outstanding_then

-- "and does not itself retire it, by a changed SPI or a list without it"
changed_spi : Verifies (address 2) before (answered (brings (echoing_two "00002002" "00000001" "00000051") 0x61) done) → true ≡ false
unfolding sequences
changed_spi v = v.not_retired

list_without_it : Verifies (address 2) before (answered (brings (echoing_one "00002001" "00000001" "00000051") 0x61) done) → true ≡ false
unfolding sequences
list_without_it v = v.not_retired

-- ---- the parts of demand 1
-- "A refused call names its reason": a Move that is not marked
refused_so : (d : Demand1 begun (marked false (move_two "00002001" "00000000") 0x51)) → refused_by (refusal 2) ≡ refused_by d.reason
unfolding sequences
refused_so d = d.named

-- "gives back the association it was given, and writes nothing in the reply buffer": the same on any association
as_lent : let c = marked false (move_two "00002001" "00000000") 0x51 in
    (a : Association) → Demand1 a c → (returned a c ≡ a) × (lent_after a c ≡ replicate 384 0 ∷ [])
as_lent a d = (d.given_back, d.unwritten)

-- ---- the parts of demand 3
-- "The association's credit equals" the credit held, which is "0 at the beginning"; no call is refused by 0 from there on
at_the_beginning : (a : Association) → Demand3 a [] → (a.credit ≡ 0) × (refusal0 a ≡ false)
unfolding sequences
at_the_beginning a d = (d.credit_held_lem, d.never_refused)

after_an_arrival : Demand3 begun (arrival 1000 ∷ []) → (after begun (arrival 1000 ∷ [])).credit ≡ 1000
unfolding sequences
after_an_arrival d = d.credit_held_lem

-- 1,000 bytes arrive; a new SPI leaves address 1 UNVERIFIED; 100 are granted; two ageings; 500 are granted, and 1,500 arrive
abbrev spending : List Call
spending =
    arrival 1000 ∷ brings (move_two "00002002" "00000000") 0x51 ∷ send 100 ∷ tick_at 105 ∷ tick_at 110 ∷ send 500 ∷ send 90 ∷ arrival 1500 ∷ []

-- "The bytes granted to UNVERIFIED addresses add up to no more than those of the arrivals accepted so far."
sums : Demand3 begun spending → 690 ≤ 2500
unfolding sequences
sums d = d.granted_arrived

-- "After any k successive ageings, .. 8^k times what is so granted from then to the next accepted arrival is at most 7^k times the credit held
-- before the first.": with k = 2, 64 times 590 and 49 times 900; with k = 1 from the second ageing, 8 times 590 and 7 times 787
decays : Demand3 begun spending → (37760 ≤ 44100) × (4720 ≤ 5509)
unfolding sequences
decays d = (
  d.decayed (arrived 1000 ∷ granted 100 ∷ []) (ageing ∷ ageing ∷ []) (granted 500 ∷ granted 90 ∷ []) (arrived 1500 ∷ []) refl tt tt,
  d.decayed (arrived 1000 ∷ granted 100 ∷ ageing ∷ []) (ageing ∷ []) (granted 500 ∷ granted 90 ∷ []) (arrived 1500 ∷ []) refl tt tt,
)

-- the same with one tick 17 seconds after the last ageing, which "holds three ageings": 600 bytes are granted of the 669 that it leaves of 1,000
abbrev silent : List Call
silent = arrival 1000 ∷ brings (move_two "00002002" "00000000") 0x51 ∷ tick_at 117 ∷ send 600 ∷ []

-- "Each whole 5 seconds is one ageing for demand 3's k.": all three, 512 times 600 and 343 times 1,000; the last two, 64 times 600 and 49 times 875; the last
decays_in_a_tick : Demand3 begun silent → (307200 ≤ 343000) × (38400 ≤ 42875) × (4800 ≤ 5355)
unfolding sequences
decays_in_a_tick d = (
  d.decayed (arrived 1000 ∷ []) (ageing ∷ ageing ∷ ageing ∷ []) (granted 600 ∷ []) [] refl tt tt,
  d.decayed (arrived 1000 ∷ ageing ∷ []) (ageing ∷ ageing ∷ []) (granted 600 ∷ []) [] refl tt tt,
  d.decayed (arrived 1000 ∷ ageing ∷ ageing ∷ []) (ageing ∷ []) (granted 600 ∷ []) [] refl tt tt,
)

-- "A call that finds an address UNVERIFIED leaves it ACTIVE exactly when" it verifies it: both ways, after the first Move
exactly : (c : Call) → Demand3 begun (first ∷ []) →
    (leaves (address 2) (next begun (first ∷ []) c) ≡ Some Active → Verifies (address 2) before (next begun (first ∷ []) c))
    × (Verifies (address 2) before (next begun (first ∷ []) c) → leaves (address 2) (next begun (first ∷ []) c) ≡ Some Active)
unfolding sequences
exactly c d = d.verified_exactly c (address 2) (record { nonce = 0x51; id = 0; issued = 102; resends = 0 }) refl

-- "No call makes an address ACTIVE that it finds DEPRECATED or not held.": address 2 after the second Move, and address 3
never : (c : Call) → Demand3 begun (first ∷ second ∷ []) →
    (leaves (address 2) (next begun (first ∷ second ∷ []) c) ≢ Some Active) × (leaves (address 3) (next begun (first ∷ second ∷ []) c) ≢ Some Active)
unfolding sequences
never c d = (d.never_revived c (address 2) (inl refl), d.never_revived c (address 3) (inr refl))

-- "Room is always found.": the first Move leaves address 2 neither unheld nor DEPRECATED
room : Demand3 begun [] → (leaves (address 2) (step_of begun first) ≢ None) × (leaves (address 2) (step_of begun first) ≢ Some Deprecated)
unfolding sequences
room d = d.listed_held_lem first (address 2) refl refl refl
