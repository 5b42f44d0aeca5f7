-- What each call keeps and does, one clause for each call. Assumes nothing.
use mathlib.Core.Path.{◌≡◌, refl, ap}
use mathlib.Core.Bool.{Bool, true, false}
use mathlib.Core.List.{List, [], ◌∷◌}
use Prim.Native.Nat.{ℕ}
use lib.ListN.{length}
use native.Mathlib.Omega.{arith}
use Rattle.std.specs.Prelude.{None, Option, Result, Some, ⊤}
use Rattle.refusal.specs.declared.Refusal.{Refusal}
use Rattle.refusal.specs.Table.{refusal}
use Rattle.address.specs.declared.Address.{Address}
use Rattle.packet.specs.Readings.{reading_of}
use Rattle.slot.specs.declared.Status.{Status}
use Rattle.slot.specs.Found.{status_in, status_at, is_active, is_unverified, found_as}
use Rattle.slots.specs.Rules.{expire_all}
use Rattle.slots.proofs.Kept.{expired_statuses, resent_statuses}
use Rattle.path.proofs.Picked.{picked_active, picked_unverified}
use Rattle.credit.specs.Clock.{ageings}
use Rattle.credit.proofs.Covered.{covered_below}
use Rattle.association.specs.Form.{refusal0}
use Rattle.association.specs.Start.{no_association}
use Rattle.association.specs.declared.Association.{Association}
use Rattle.association.specs.declared.Answer.{Answer}
use Rattle.association.proofs.Answers.{is_refused}
use Rattle.association.proofs.Sound.{Keeps}
use Rattle.association.proofs.Started.{none_refused}
use Rattle.payload.specs.Calls.{arrival_of, send_of}
use Rattle.payload.specs.declared.SendAnswer.{SendAnswer}
use Rattle.payload.proofs.Kept.{arrival_keeps, send_keeps}
use Rattle.clock.specs.Ticks as ticks
use Rattle.clock.proofs.Ends.{tick_ends}
use Rattle.clock.proofs.Ends as clock_ends
use Rattle.clock.proofs.Kept.{tick_keeps}
use Rattle.reply_form.specs.Replies.{nonce_count}
use Rattle.update.specs.Messages.{handle_reading, handled}
use Rattle.update.proofs.Cases.{message_ends}
use Rattle.update.proofs.Untouched.{is_declined, reading_untouched, declined_buffer}
use Rattle.update.proofs.Kept.{message_keeps}
use Rattle.announcement.specs.declared.OwnLocator.{OwnLocator}
use Rattle.announcement.specs.Announcements as announcements
use Rattle.announcement.proofs.Ends.{announcement_ends, refused_buffer}
use Rattle.announcement.proofs.Kept.{announcement_keeps}
use Rattle.update.specs.declared.Received.{Received}
use Rattle.history.specs.Calls.{Call, message, arrival, send, tick, announce, Answered, refused_by, of_outcome, of_send, of_message, answers, returned, lent, lent_after, is_accepted, after}
use Rattle.history.specs.Ledger.{held, entries_of, last_of}
use Rattle.history.specs.Words.{is_authentic, echoed, retires, taken}
use Rattle.history.specs.Demand.{Demand1}
use Rattle.payload.proofs.Ends.{arrival_ends, send_ends}
use Rattle.history.proofs.Ledgers.{Funded, ageings_held, ageings_funded}
use Rattle.history.proofs.Traces.{is_heeded, Traced, traced_unheeded, traced_still, traced_expired, traced_resent, traced_reading}

-- ---- refusal 0
-- "from a start on, no call yields such an association"
pub keeps : (c : Call) → Keeps (λ a. returned a c)
keeps (message packet authentic nonces eight buffer) = message_keeps packet authentic nonces eight buffer
keeps (arrival size) = arrival_keeps size
keeps (send size) = send_keeps size
keeps (tick time buffer) = tick_keeps time buffer
keeps (announce list count inbound keymat buffer) = announcement_keeps list count inbound keymat buffer

pub after_keeps : (cs : List Call) → Keeps (λ a. after a cs)
unfolding after
after_keeps [] a p = p
after_keeps (c ∷ cs) a p = after_keeps cs (returned a c) (keeps c a p)

-- refusal 0 "comes first in every call but start"
pub bad_refused : (a : Association) → refusal0 a ≡ true → (c : Call) → answers a c ≡ refused_by (refusal 0)
unfolding handled arrival_of send_of ticks.handled announcements.handled
bad_refused a p c = grind arith

-- every call refuses what a refused start leaves
pub none_refuses : (c : Call) → answers no_association c ≡ refused_by (refusal 0)
none_refuses = bad_refused no_association none_refused

-- ---- what a call did that was answered r and left this association
pub record Did (a : Association) (c : Call) (r : Answered) (left : Association) : Type 0 where
  -- "A refused call stands in it and changes nothing."
  pub refused_same : is_accepted r ≡ false → left ≡ a
  -- the time of the last ageing by the history is the association's
  pub last : last_of a.aged c r ≡ left.aged
  -- the credit is what the call's entries make of it, and nothing else moves it
  pub credit : held a.credit (entries_of a.aged a c r) ≡ left.credit
  -- a grant to UNVERIFIED is below the credit
  pub funded : Funded a.credit (entries_of a.aged a c r)
  -- an accepted message is authentic; no other call echoes anything
  pub authentic : (n : ℕ) → is_accepted r ≡ true → echoed c ≡ Some n → is_authentic c ≡ true
  pub traced : (x : Address) → Traced (status_in x a.slots) (status_in x left.slots) (taken x a c r) (echoed c) (retires x a c) (is_heeded r)

-- ---- a refusal
refused_entries : (last : ℕ) (a : Association) (c : Call) (r : Refusal) → entries_of last a c (refused_by r) ≡ []
refused_entries last a c r = grind arith

refused_last : (last : ℕ) (c : Call) (r : Refusal) → last_of last c (refused_by r) ≡ last
refused_last last c r = grind arith

refused_taken : (x : Address) (a : Association) (c : Call) (r : Refusal) → taken x a c (refused_by r) ≡ None
refused_taken x a c r = grind arith

refused_did : (a : Association) (c : Call) (r : Refusal) → Did a c (refused_by r) a
unfolding held Funded
refused_did a c r = record {
  refused_same = λ e. refl;
  last = refused_last a.aged c r;
  credit = rw (refused_entries a.aged a c r) refl;
  funded = rw (refused_entries a.aged a c r) tt;
  authentic = λ n e. cc;
  traced = λ x. rw (refused_taken x a c r) (traced_unheeded (status_in x a.slots) (echoed c) (retires x a c));
}

-- ---- an arrival
-- what a call did, by its answer
abbrev DidBy : Association → Call → Answer → Type 0
DidBy a c r = Did a c (of_outcome r.outcome) r.association

arrival_did : (a : Association) (size : ℕ) → DidBy a (arrival size) (arrival_of a size)
unfolding held Funded
arrival_did a size =
    arrival_ends a size (DidBy a (arrival size)) (λ n. refused_did a (arrival size) (refusal n))
    (record {
      refused_same = λ e. cc;
      last = refl;
      credit = refl;
      funded = (tt, tt);
      authentic = λ n e f. cc;
      traced = λ x. traced_still (status_in x a.slots) true;
    })

-- ---- a tick
tick_did : (a : Association) (time : ℕ) (buffer : List ℕ) → Did a (tick time buffer) (answers a (tick time buffer)) (returned a (tick time buffer))
tick_did a time buffer =
    tick_ends (λ (h : ticks.Ticked). Did a (tick time buffer) (of_outcome h.outcome) h.left) a (λ n. refused_did a (tick time buffer) (refusal n)) time (length buffer)
    (λ p. record {
      refused_same = λ e. cc;
      last = refl;
      credit = ageings_held (ageings a.aged time) a.credit;
      funded = ageings_funded (ageings a.aged time) a.credit;
      authentic = λ n e f. cc;
      traced =
          λ x.
          rw (resent_statuses x time (expire_all time a.slots))
          (traced_resent time (status_in x a.slots) (status_in x (expire_all time a.slots)) true
          (traced_expired (status_in x a.slots) (status_in x (expire_all time a.slots)) true (expired_statuses x time a.slots)));
    })

-- ---- an announcement
announce_did : (a : Association) (list : List OwnLocator) (count inbound keymat : ℕ) (buffer : List ℕ) →
    Did a (announce list count inbound keymat buffer) (answers a (announce list count inbound keymat buffer)) (returned a (announce list count inbound keymat buffer))
unfolding announcements.after_announcement held Funded
announce_did a list count inbound keymat buffer =
    announcement_ends (λ h. Did a (announce list count inbound keymat buffer) (of_outcome h.outcome) h.left) a
    (λ n. refused_did a (announce list count inbound keymat buffer) (refusal n)) list count inbound keymat (length buffer)
    (λ p. record {
      refused_same = λ e. cc;
      last = refl;
      credit = refl;
      funded = tt;
      authentic = λ n e f. cc;
      traced = λ x. traced_still (status_in x a.slots) true;
    })

-- ---- a send
abbrev DidSend : Association → (size : ℕ) → SendAnswer → Type 0
DidSend a size r = Did a (send size) (of_send r.outcome) r.association

-- ACTIVE is not UNVERIFIED
active_only : (o : Option Status) → found_as is_active o ≡ true → found_as is_unverified o ≡ false
active_only o e = grind arith

send_did : (a : Association) (size : ℕ) → DidSend a size (send_of a size)
unfolding held Funded
send_did a size =
    send_ends a size (DidSend a size) (λ n. refused_did a (send size) (refusal n))
    (λ n e.
    let active = active_only (status_at n a.slots) (picked_active a.preferred a.slots n e) in
    record {
      refused_same = λ e. refl;
      last = refl;
      credit = rw active;
      funded = rw active tt;
      authentic = λ n e f. cc;
      traced = λ x. traced_still (status_in x a.slots) true;
    })
    (λ n e q.
    let unverified = picked_unverified a.preferred a.slots n e in
    record {
      refused_same = λ e. cc;
      last = refl;
      credit = rw unverified;
      funded = rw unverified (covered_below a.credit size q, tt);
      authentic = λ n e f. cc;
      traced = λ x. traced_still (status_in x a.slots) true;
    })

-- ---- a message
-- a message that is not accepted is refused
declined_is : (o : Result Received Refusal) → is_accepted (of_message o) ≡ false → is_declined o ≡ true
declined_is o e = grind arith

message_did : (a : Association) (packet : List ℕ) (authentic : Bool) (nonces : List ℕ) (eight : length nonces ≡ nonce_count) (buffer : List ℕ) →
    Did a (message packet authentic nonces eight buffer) (answers a (message packet authentic nonces eight buffer)) (returned a (message packet authentic nonces eight buffer))
unfolding held Funded
message_did a packet authentic nonces eight buffer =
    message_ends (λ h. Did a (message packet authentic nonces eight buffer) (of_message h.outcome) h.left) a
    (λ n. refused_did a (message packet authentic nonces eight buffer) (refusal n)) packet authentic nonces (length buffer)
    (λ p r q.
    let left = reading_untouched a packet (reading_of packet) nonces in
    record {
      refused_same = λ e. left.association (declined_is (handle_reading a packet (reading_of packet) nonces).outcome e);
      last = left.aged;
      credit = left.credit;
      funded = tt;
      authentic = λ n e f. q;
      traced = λ x. traced_reading x a packet (reading_of packet) nonces;
    })

pub did : (a : Association) (c : Call) → Did a c (answers a c) (returned a c)
did a (message packet authentic nonces eight buffer) = message_did a packet authentic nonces eight buffer
did a (arrival size) = arrival_did a size
did a (send size) = send_did a size
did a (tick time buffer) = tick_did a time buffer
did a (announce list count inbound keymat buffer) = announce_did a list count inbound keymat buffer

-- ---- demand 1
-- a tick or an announcement that is not accepted is refused
refused_is : (o : Result ⊤ Refusal) → is_accepted (of_outcome o) ≡ false → is_refused o ≡ true
refused_is o e = grind arith

-- "writes nothing in the reply buffer": of each call, whatever it is lent
refused_unwritten : (a : Association) (c : Call) → is_accepted (answers a c) ≡ false → lent_after a c ≡ lent c
refused_unwritten a (message packet authentic nonces eight buffer) e =
    ap (λ (b : List ℕ). b ∷ [])
    (declined_buffer a packet authentic nonces buffer (declined_is (handled a packet authentic nonces (length buffer)).outcome e))
refused_unwritten a (arrival size) e = refl
refused_unwritten a (send size) e = refl
refused_unwritten a (tick time buffer) e =
    ap (λ (b : List ℕ). b ∷ []) (clock_ends.refused_buffer a time buffer (refused_is (ticks.handled a time (length buffer)).outcome e))
refused_unwritten a (announce list count inbound keymat buffer) e =
    ap (λ (b : List ℕ). b ∷ [])
    (refused_buffer a list count inbound keymat buffer (refused_is (announcements.handled a list count inbound keymat (length buffer)).outcome e))

-- what is not accepted is a refusal
named_so : (r : Answered) → is_accepted r ≡ false → (why : Refusal) × (r ≡ refused_by why)
named_so r e = grind arith

-- demand 1 holds of every call that is refused, on any association
pub demand_1 : (a : Association) (c : Call) → is_accepted (answers a c) ≡ false → Demand1 a c
demand_1 a c e =
    let so = named_so (answers a c) e in
    record { reason = so.0; named = so.1; given_back = (did a c).refused_same e; unwritten = refused_unwritten a c e }
