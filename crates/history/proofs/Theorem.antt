-- The theorem: what demand 3 says holds of every sequence of calls from an accepted start. Assumes nothing.
use mathlib.Core.Path.{◌≡◌, refl, sym, ◌∙◌, ap, subst}
use mathlib.Core.Bool.{Bool, true, false, not, cond, ◌&&◌}
use mathlib.Core.Logic.{◌≢◌, ◌⊎◌, ◌↔◌}
use mathlib.Core.List.{List, [], ◌∷◌, ◌++◌}
use Prim.Native.Nat.{ℕ, ◌≤◌}
use lib.ListN.{length}
use native.Mathlib.Omega.{arith}
use borrow.Author.Tests.{eqb-true, eq-eqb}
use Rattle.std.specs.Prelude.{Err, None, Ok, Option, Result, Some}
use Rattle.boolean.proofs.Laws.{apart}
use Rattle.refusal.specs.declared.Refusal.{Refusal}
use Rattle.address.specs.declared.Address.{Address}
use Rattle.address.specs.Rules.{same_address}
use Rattle.packet.specs.declared.Message.{Message}
use Rattle.packet.specs.declared.Message.TheVariants.{Move, Reply, PeerCheck}
use Rattle.packet.specs.Readings.{reading_of, opaque_of}
use Rattle.packet.proofs.Listed.{count_in, few_listed}
use Rattle.locator.specs.declared.ListedLocator.{ListedLocator}
use Rattle.locator_set.specs.Sets.{set_limit, listed_in}
use Rattle.slot.specs.declared.Check.{Check}
use Rattle.slot.specs.declared.Status.{Status}
use Rattle.slot.specs.declared.Status.TheVariants.{Unverified, Active, Deprecated}
use Rattle.slot.specs.Found.{status_in, is_active, found_as}
use Rattle.slot.proofs.Carried.{Carries, carries_imply}
use Rattle.slots.proofs.Each.{All, all_imply}
use Rattle.readdress.specs.Steps.{is_listed}
use Rattle.readdress.proofs.Live.{is_dead, nonce_held}
use Rattle.association.specs.declared.Association.{Association}
use Rattle.association.specs.Form.{accepted, refused}
use Rattle.association.specs.Start.{refusal16, no_association, started, start_of}
use Rattle.association.proofs.Sound.{Formed}
use Rattle.association.proofs.Started.{started_formed, started_status}
use Rattle.update.specs.Messages.{Handled, handle_reading}
use Rattle.update.proofs.Cases.{reply_ends, move_ends, check_ends, message_ends}
use Rattle.update.proofs.Listed.{move_lists}
use Rattle.history.specs.Calls.{Call, message, arrival, send, tick, announce, of_message, answers, returned, is_accepted, Step, step_of, history, after}
use Rattle.history.specs.Ledger.{ledger, held, entries_of, last_of, credit_held}
use Rattle.history.specs.Words.{echoed, lists, set_in, retires, leaves, outstanding_from, outstanding}
use Rattle.history.specs.Demand.{Verifies, ledger_of, next, Demand3}
use Rattle.history.proofs.Ledgers.{Funded, held_append, funded_join, funded_split, conserved, faded}
use Rattle.history.proofs.Traces.{is_heeded, is_echo}
use Rattle.history.proofs.Calls.{after_keeps, did}
use Rattle.history.proofs.Issued.{Below, issued_ends}

-- ---- the credit
-- a whole sequence keeps the ledger, from any association
record Kept (a : Association) (cs : List Call) : Type 0 where
  credit : (after a cs).credit ≡ held a.credit (ledger_of a cs)
  funded : Funded a.credit (ledger_of a cs)

kept : (a : Association) (cs : List Call) → Kept a cs
unfolding after history ledger held Funded
kept a [] = record { credit = refl; funded = tt }
kept a (c ∷ cs) =
    let d = did a c in
    let r = kept (returned a c) cs in
    let es = entries_of a.aged a c (answers a c) in
    let fs = ledger (last_of a.aged c (answers a c)) (history (returned a c) cs) in
    record {
      credit = rw (held_append a.credit es fs, d.credit, d.last) r.credit;
      funded = funded_join a.credit es fs d.funded (rw (d.credit, d.last) r.funded);
    }

-- ---- one address
-- the nonce outstanding by the history is the one that the association holds
tracked : (x : Address) (a : Association) (cs : List Call) →
    outstanding_from x (nonce_held (status_in x a.slots)) (history a cs) ≡ nonce_held (status_in x (after a cs).slots)
unfolding after history outstanding_from
tracked x a [] = refl
tracked x a (c ∷ cs) =
    ap (λ (o : Option ℕ). outstanding_from x o (history (returned a c) cs)) ((did a c).traced x).nonce ∙ tracked x (returned a c) cs

is_active_lem : (o : Option Status) → found_as is_active o ≡ true → o ≡ Some Active
is_active_lem o p = grind arith

echo_is : (o : Option ℕ) (n : ℕ) → is_echo o n ≡ true → o ≡ Some n
echo_is None n p = cc
echo_is (Some m) n p = ap Some (eqb-true m n p)

verified_by : (x : Address) (h : List Step) (a : Association) (c : Call) (k : Check) → outstanding x h ≡ nonce_held (status_in x a.slots) →
    status_in x a.slots ≡ Some (Unverified k) → (leaves x (step_of a c) ≡ Some Active) ↔ Verifies x h (step_of a c)
verified_by x h a c k known found =
    let d = did a c in
    let turned = (d.traced x).verified k found in
    let heeded = is_heeded (answers a c) in
    let echoes = is_echo (echoed c) k.nonce in
    let kept = not (retires x a c) in
    let outstanding_now : outstanding x h ≡ Some k.nonce = known ∙ ap nonce_held found in (
      λ active.
          let all : (heeded && (echoes && kept)) ≡ true = sym turned ∙ ap (found_as is_active) active in
          let accepted : is_accepted (answers a c) ≡ true = grind arith in
          let echo = echo_is (echoed c) k.nonce (grind arith) in
          record {
            authentic = d.authentic k.nonce accepted echo;
            accepted = accepted;
            not_a_repeat = grind arith;
            nonce = k.nonce;
            echoes = echo;
            outstanding_then = outstanding_now;
            not_retired = grind arith;
          },
      λ v.
          let same : Some v.nonce ≡ Some k.nonce = sym v.outstanding_then ∙ outstanding_now in
          let same_nonce : v.nonce ≡ k.nonce = cc in
          is_active_lem (leaves x (step_of a c))
          (turned ∙ rw (v.accepted, v.not_a_repeat, v.echoes, v.not_retired, same_nonce, eq-eqb k.nonce k.nonce refl)),
    )

revived_none : (x : Address) (a : Association) (c : Call) → is_dead (status_in x a.slots) ≡ true → leaves x (step_of a c) ≢ Some Active
revived_none x a c dead active =
    let r = ((did a c).traced x).revived dead in
    cc

-- ---- what a Move lists
abbrev LeavesListed : Address → (set : List ListedLocator) → Handled → Type 0
LeavesListed x set h = is_heeded (of_message h.outcome) ≡ true → is_listed x set ≡ true → is_dead (status_in x h.left.slots) ≡ false

reading_lists : (x : Address) (a : Association) (packet : List ℕ) (r : Result Message Refusal) (nonces : List ℕ) → count_in r ≤ set_limit → Formed a →
    LeavesListed x (set_in r) (handle_reading a packet r nonces)
reading_lists x a packet (Err why) nonces few p = λ h l. apart (sym h)
reading_lists x a packet (Ok (PeerCheck c)) nonces few p =
    check_ends (LeavesListed x []) a (λ n h. apart (sym h)) c.id (opaque_of packet c) (λ q h. apart (sym h)) (λ q h l. apart (sym l))
reading_lists x a packet (Ok (Reply e)) nonces few p = reply_ends (LeavesListed x []) a (λ n h. apart (sym h)) e (λ h l. apart (sym l))
reading_lists x a packet (Ok (Move m set)) nonces few p =
    move_ends (LeavesListed x (listed_in set)) a (λ n h. apart (sym h)) m (listed_in set) nonces (λ h. apart (sym h))
    (λ q r h l. move_lists x a m set nonces few p l)

lists_live : (x : Address) (a : Association) (c : Call) → Formed a → is_heeded (answers a c) ≡ true → lists x c ≡ true → is_dead (status_in x (returned a c).slots) ≡ false
lists_live x a (message packet authentic nonces eight buffer) p =
    message_ends (LeavesListed x (set_in (reading_of packet))) a (λ n h. apart (sym h)) packet authentic nonces (length buffer)
    (λ q r s. reading_lists x a packet (reading_of packet) nonces (few_listed packet) p)
lists_live x a (arrival size) p = λ h l. apart (sym l)
lists_live x a (send size) p = λ h l. apart (sym l)
lists_live x a (tick time buffer) p = λ h l. apart (sym l)
lists_live x a (announce list count inbound keymat buffer) p = λ h l. apart (sym l)

not_dead : (o : Option Status) → is_dead o ≡ false → (o ≢ None) × (o ≢ Some Deprecated)
not_dead o p = (λ q. cc, λ q. cc)

-- ---- the claim
-- where a sequence begins: credit 0, and no nonce and no check outstanding. What an accepted start makes is such an association
pub record Begins (a : Association) : Type 0 where
  pub no_credit : a.credit ≡ 0
  pub no_nonce : (x : Address) → nonce_held (status_in x a.slots) ≡ None
  pub no_check : All (Carries (λ (k : Check). ⊥)) a.slots
  pub formed : Formed a

pub demand_3_from : (a : Association) → Begins a → (cs : List Call) → Demand3 a cs
demand_3_from a b cs =
    let k = kept a cs in
    let formed = after_keeps cs a b.formed in
    let zero_held : held a.credit (ledger_of a cs) ≡ credit_held (ledger_of a cs) = ap (λ (n : ℕ). held n (ledger_of a cs)) b.no_credit in
    let zero_funded : Funded 0 (ledger_of a cs) = subst (λ (n : ℕ). Funded n (ledger_of a cs)) b.no_credit k.funded in
    record {
      credit_held_lem = k.credit ∙ zero_held;
      granted_arrived = let c = conserved 0 (ledger_of a cs) zero_funded in omega arith;
      decayed =
          λ before among since rest split quiet quiet_since.
          let f : Funded 0 (before ++ (among ++ (since ++ rest))) = rw split at zero_funded in
          faded (held 0 before) among since rest (funded_split 0 before (among ++ (since ++ rest)) f).1 quiet quiet_since;
      verified_exactly =
          λ c x u found.
          verified_by x (history a cs) (after a cs) c u (ap (λ (o : Option ℕ). outstanding_from x o (history a cs)) (sym (b.no_nonce x)) ∙ tracked x a cs) found;
      never_revived = λ c x found. revived_none x (after a cs) c (dead_found (status_in x (after a cs).slots) found);
      listed_held_lem = λ c x accepted fresh listed. not_dead (leaves x (next a cs c)) (lists_live x (after a cs) c formed (rw (accepted, fresh)) listed);
      given_up_lem =
          λ before between rest issuing ending id time split issues ticked late.
          issued_ends a cs before between rest issuing ending id time
          (all_imply (Carries (λ (k : Check). ⊥)) (Carries (Below a.next)) (carries_imply (λ (k : Check). ⊥) (Below a.next) (λ k n. absurd n)) a.slots b.no_check)
          split issues ticked late;
      never_refused = formed.unrefused;
    }
  where
    dead_found : (o : Option Status) → (o ≡ Some Deprecated) ⊎ (o ≡ None) → is_dead o ≡ true
    dead_found o p = grind arith

start_nonce : (b : Bool) → nonce_held (cond b (Some Active) None) ≡ None
start_nonce b = grind arith

-- an accepted start
start_begins : (time outbound inbound : ℕ) (address : Address) (lifetime : ℕ) → (start_of time outbound inbound address lifetime).outcome ≡ Ok tt →
    Begins (start_of time outbound inbound address lifetime).association
unfolding start_of All
start_begins time outbound inbound address lifetime e = go (refusal16 time outbound inbound address lifetime) refl e
  where
    go : (b : Bool) → refusal16 time outbound inbound address lifetime ≡ b →
        (cond b (refused 16 no_association) (accepted (started time outbound inbound address lifetime))).outcome ≡ Ok tt →
        Begins (cond b (refused 16 no_association) (accepted (started time outbound inbound address lifetime))).association
    go true p q = cc
    go false p q = record {
      no_credit = refl;
      no_nonce = λ x. ap nonce_held (started_status time outbound inbound address lifetime x) ∙ start_nonce (same_address x address);
      no_check = (tt, (tt, (tt, (tt, (tt, (tt, (tt, (tt, tt))))))));
      formed = started_formed time outbound inbound address lifetime p;
    }

-- "Take every sequence of messages, arrivals, sends and ticks on one newly started association, refused calls included."
pub demand_3 : (time outbound inbound : ℕ) (address : Address) (lifetime : ℕ) → (start_of time outbound inbound address lifetime).outcome ≡ Ok tt → (cs : List Call) →
    Demand3 (start_of time outbound inbound address lifetime).association cs
demand_3 time outbound inbound address lifetime e cs =
    demand_3_from (start_of time outbound inbound address lifetime).association (start_begins time outbound inbound address lifetime e) cs
