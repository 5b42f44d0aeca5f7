-- Worked examples, computed from the definitions: the words of order 4 about checks, and its part of the claim.
use Rattle.std.specs.Prelude.{ℕ, ◌≡◌, refl, true, false, List, [], ◌∷◌, ◌++◌, map, replicate, None, Some}
use Rattle.std.proofs.Common.{arith}
use Rattle.refusal.specs.Table.{refusal}
use Rattle.octets.specs.ExamplesHex.{hex}
use Rattle.history.specs.Calls.{Call, arrival, send, tick, Answered, refused_by, done, repeated, returned, lent_after, step_of, history, after}
use Rattle.history.specs.Issued.{checks_in, announced_in, ids_in, next_id, Takes, Issues, ticked_at, time_or, last_tick, is_outstanding}
use Rattle.history.specs.Demand.{next, Demand3}
use Rattle.history.specs.Examples.{malformed, brings, tick_at, first, second, third, rebinding, answering, moved, begun}
use Rattle.history.specs.ExamplesAnnounced.{accepts, refuses, check}
use Rattle.history.specs.ExamplesUnfolded.{sequences}

-- ---- own Update IDs
-- the checks that calls issue: the first Move one, for address 2; one with a new SPI two; a Move that keeps the check none, nor do a repeat, a refused Move, a
-- Reply, a Check of the peer, what refusal 3 refuses and other calls
issued : (map (λ (r : Answered). checks_in begun first r) (done ∷ repeated ∷ refused_by (refusal 2) ∷ []) ≡ 1 ∷ 0 ∷ 0 ∷ [])
    × (map (λ (c : Call). checks_in moved c done) (rebinding ∷ third ∷ second ∷ answering "00000051" ∷ check ∷ brings malformed 1 ∷ []) ≡ 2 ∷ replicate 5 0)
    × (map (λ (c : Call). checks_in begun c done) (arrival 1 ∷ send 1 ∷ tick_at 103 ∷ accepts ∷ []) ≡ replicate 4 0)
unfolding sequences
issued = (refl, refl, refl)

-- an accepted announcement takes one; no other call takes any but for checks
announced : (map (announced_in accepts) (done ∷ refused_by (refusal 21) ∷ []) ≡ 1 ∷ 0 ∷ [])
    × (map (λ (c : Call). announced_in c done) (first ∷ check ∷ arrival 1 ∷ send 1 ∷ tick_at 103 ∷ []) ≡ replicate 5 0)
    × (map ids_in (step_of begun first ∷ step_of begun accepts ∷ step_of begun refuses ∷ step_of moved rebinding ∷ []) ≡ 1 ∷ 1 ∷ 0 ∷ 2 ∷ [])
unfolding sequences
announced = (refl, refl, refl)

-- "own Update IDs in order", for checks and announcements together: the first Move's check takes 0, an announcement 1, and the checks of a Move with a new SPI 2 and 3
abbrev calls : List Call
calls = first ∷ accepts ∷ refuses ∷ tick_at 103 ∷ rebinding ∷ []

nexts : (map (λ (h : List Call). next_id 0 (history begun h)) ([] ∷ (first ∷ []) ∷ (first ∷ accepts ∷ []) ∷ calls ∷ []) ≡ 0 ∷ 1 ∷ 2 ∷ 4 ∷ [])
    × (next_id 7 (history begun calls) ≡ 11)
    × ((after begun calls).next ≡ 4)
unfolding sequences
nexts = (refl, refl, refl)

-- which IDs a call takes, and for checks: of a Move with two checks where 2 is next, 2 and 3; of an announcement 2, and none for a check
ids : (n : ℕ) → (Takes 2 2 (step_of moved rebinding) × Takes 3 2 (step_of moved rebinding))
    × (Issues 2 2 (step_of moved rebinding) × Issues 3 2 (step_of moved rebinding))
    × (Takes 4 2 (step_of moved rebinding) → ⊥)
    × (Issues 1 2 (step_of moved rebinding) → ⊥)
    × (Issues 4 2 (step_of moved rebinding) → ⊥)
    × Takes 2 2 (step_of begun accepts)
    × (Issues n 2 (step_of begun accepts) → ⊥)
    × (Takes n 2 (step_of begun refuses) → ⊥)
unfolding sequences
ids n = (
  ((omega arith, omega arith), (omega arith, omega arith)),
  ((omega arith, omega arith), (omega arith, omega arith)),
  λ p. let q = p.1 in absurd (omega arith),
  λ p. let q = p.0 in absurd (omega arith),
  λ p. let q = p.1 in absurd (omega arith),
  (omega arith, omega arith),
  λ p. let q = p.0 in let r = p.1 in absurd (omega arith),
  λ p. let q = p.0 in let r = p.1 in absurd (omega arith),
)

-- ---- the time
-- an accepted tick tells its time, and nothing else does
times : (map (ticked_at (tick_at 103)) (done ∷ refused_by (refusal 12) ∷ []) ≡ Some 103 ∷ None ∷ [])
    × (map (λ (c : Call). ticked_at c done) (first ∷ arrival 1 ∷ send 1 ∷ accepts ∷ []) ≡ replicate 4 None)
    × (map (time_or 102) (None ∷ Some 103 ∷ []) ≡ 102 ∷ 103 ∷ [])
unfolding sequences
times = (refl, refl, refl)

-- "the time of the last accepted tick of the sequence", or "the stored time with which the sequence begins", 102; one with 319 bytes and one before the stored time
-- are refused
last_ticks : map (λ (h : List Call). last_tick 102 (history begun h))
    ([]
    ∷ (first ∷ arrival 5 ∷ [])
    ∷ (tick_at 103 ∷ first ∷ [])
    ∷ (tick_at 103 ∷ tick_at 105 ∷ accepts ∷ [])
    ∷ (tick_at 103 ∷ tick 105 (replicate 319 0) ∷ tick_at 101 ∷ [])
    ∷ [])
    ≡ 102 ∷ 102 ∷ 103 ∷ 105 ∷ 103 ∷ []
unfolding sequences
last_ticks = refl

-- ---- outstanding
-- after the first Move the check of Update ID 0 is, and no other; its nonce is no Update ID; not after its answer, nor after the second Move
outstanding : (map (λ (id : ℕ). is_outstanding id moved) (0 ∷ 1 ∷ 0x51 ∷ []) ≡ true ∷ false ∷ false ∷ [])
    × (is_outstanding 0 begun ≡ false)
    × (map (λ (h : List Call). is_outstanding 0 (after begun h)) ((first ∷ answering "00000051" ∷ []) ∷ (first ∷ second ∷ []) ∷ (first ∷ third ∷ []) ∷ [])
    ≡ false ∷ false ∷ true ∷ [])
    × (map (λ (id : ℕ). is_outstanding id (after begun calls)) (0 ∷ 1 ∷ 2 ∷ 3 ∷ 4 ∷ []) ≡ false ∷ false ∷ true ∷ true ∷ false ∷ [])
unfolding sequences
outstanding = (refl, refl, refl, refl)

-- still at 117, 15 seconds after issue, and not at 118; a Move at 110 that lists the address changes nothing of that
ends : map (λ (h : List Call). is_outstanding 0 (after begun h)) ((first ∷ tick_at 117 ∷ []) ∷ (first ∷ tick_at 118 ∷ []) ∷ (first ∷ tick_at 110 ∷ third ∷ tick_at 118 ∷ []) ∷ [])
    ≡ true ∷ false ∷ false ∷ []
unfolding sequences
ends = refl

-- ---- the claim
-- of the check of the first Move, issued at 102, after a tick at 118 and any call that follows it
ended : (c : Call) → Demand3 begun (first ∷ tick_at 103 ∷ tick_at 118 ∷ c ∷ []) → is_outstanding 0 (returned (after begun (first ∷ tick_at 103 ∷ tick_at 118 ∷ [])) c) ≡ false
unfolding sequences
ended c d =
    d.given_up_lem [] (next begun (first ∷ []) (tick_at 103) ∷ []) (next begun (first ∷ tick_at 103 ∷ tick_at 118 ∷ []) c ∷ []) (step_of begun first)
    (next begun (first ∷ tick_at 103 ∷ []) (tick_at 118)) 0 118 refl (omega arith, omega arith) refl (omega arith)

-- of a check that is issued after a tick at 103 and an announcement, after a tick at 119 and any two calls
ended_later : (b c : Call) → Demand3 begun (tick_at 103 ∷ accepts ∷ first ∷ tick_at 119 ∷ b ∷ c ∷ []) →
    is_outstanding 1 (returned (returned (after begun (tick_at 103 ∷ accepts ∷ first ∷ tick_at 119 ∷ [])) b) c) ≡ false
unfolding sequences
ended_later b c d =
    d.given_up_lem (step_of begun (tick_at 103) ∷ next begun (tick_at 103 ∷ []) accepts ∷ []) []
    (next begun (tick_at 103 ∷ accepts ∷ first ∷ tick_at 119 ∷ []) b ∷ next begun (tick_at 103 ∷ accepts ∷ first ∷ tick_at 119 ∷ b ∷ []) c ∷ [])
    (next begun (tick_at 103 ∷ accepts ∷ []) first) (next begun (tick_at 103 ∷ accepts ∷ first ∷ []) (tick_at 119)) 1 119 refl (omega arith, omega arith) refl (omega arith)

-- a resend after an announcement has the inbound SPI that is held now, 0x1002, and the check's own Update ID
resent_since : lent_after (after begun (first ∷ accepts ∷ [])) (tick_at 103)
    ≡ (hex "0041000c 00000000 00001002 00001002 01810004 00000000 03810008 00000000 00000051 00000000" ++ replicate 280 0) ∷ []
unfolding sequences
resent_since = refl
