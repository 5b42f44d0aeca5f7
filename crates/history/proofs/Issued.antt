-- Own Update IDs and checks over a sequence (order 4): an Update ID is taken once, and a check is given up 16 seconds after its issue. Assumes nothing.
use mathlib.Core.Path.{◌≡◌, refl, sym, ap, ◌∙◌}
use mathlib.Core.Bool.{false, cond}
use mathlib.Core.List.{List, [], ◌∷◌, ◌++◌}
use Prim.Native.Nat.{ℕ, ◌+◌, ◌-◌, ◌≤◌, ◌<◌}
use lib.ListN.{length}
use native.Mathlib.Omega.{arith}
use borrow.Author.Tests.{ne_eqb}
use Rattle.std.specs.Prelude.{Err, None, Ok, Result, Some}
use Rattle.check_times.specs.Times.{check_life}
use Rattle.check_times.proofs.Moments.{not_given_up}
use Rattle.refusal.specs.Table.{refusal}
use Rattle.refusal.specs.declared.Refusal.{Refusal}
use Rattle.packet.specs.declared.Message.{Message}
use Rattle.packet.specs.declared.Message.TheVariants.{Move, Reply, PeerCheck}
use Rattle.packet.specs.Readings.{reading_of, opaque_of}
use Rattle.locator_set.specs.Sets.{listed_in}
use Rattle.slot.specs.declared.Check.{Check}
use Rattle.slot.specs.declared.Slot.{Slot}
use Rattle.slot.specs.Found.{held_as}
use Rattle.slot.specs.Checks.{resent}
use Rattle.slot.proofs.Carried.{Carries, Fails, carries_fails, carries_imply}
use Rattle.slots.proofs.Each.{All, all_none, all_imply}
use Rattle.slots.proofs.Kept.{Young, ticked_carries}
use Rattle.slots.specs.Rules.{expire_all, resend_all}
use Rattle.credit.specs.Credit.{credited}
use Rattle.readdress.proofs.Carried.{verified_carried, moved_carried}
use Rattle.association.specs.declared.Association.{Association}
use Rattle.association.specs.declared.Answer.{Answer}
use Rattle.association.specs.Form.{with_credit}
use Rattle.payload.specs.declared.SendAnswer.{SendAnswer}
use Rattle.clock.specs.Ticks as ticks
use Rattle.clock.proofs.Ends.{tick_ends}
use Rattle.update.specs.Messages.{Handled, differs, after_move, handle_reading}
use Rattle.update.proofs.Cases.{reply_ends, move_ends, check_ends, message_ends}
use Rattle.announcement.specs.declared.OwnLocator.{OwnLocator}
use Rattle.announcement.specs.Announcements as announcements
use Rattle.announcement.proofs.Ends.{announcement_ends}
use Rattle.history.specs.Calls.{Call, message, arrival, send, tick, announce, Answered, refused_by, done, granted_to, of_outcome, of_send, of_message, answers, returned, Step, step_of, history, after}
use Rattle.history.specs.Issued.{checks_by, checks_in, announced_in, ids_in, next_id, Takes, Issues, ticked_at, time_or, last_tick, is_check, is_outstanding}
use Rattle.payload.proofs.Ends.{arrival_ends, send_ends}
use Rattle.history.proofs.Traces.{is_heeded}

-- ---- what one call does
-- a property of checks that does not look at the count of resends
abbrev Uncounted : (Check → Type 0) → Type 0
Uncounted P = (time : ℕ) (k : Check) → P k → P (resent time k)

-- of the call c on the association a, that was answered r and left this one, and of a property of checks
record Noted (P : Check → Type 0) (a : Association) (c : Call) (r : Answered) (left : Association) : Type 0 where
  -- the next own Update ID by the history is the association's
  next : a.next + (checks_in a c r + announced_in c r) ≡ left.next
  -- the time of the last accepted tick by the history is the stored time
  clock : time_or a.time (ticked_at c r) ≡ left.time
  -- what holds of every check before, and of those that are issued now with the Update IDs that the call takes, holds of every check after
  carried : ((k : Check) → k.issued ≡ a.time → a.next ≤ k.id → k.id < left.next → P k) → All (Carries P) a.slots → All (Carries P) left.slots
  -- after an accepted tick no check is left that is given up by then
  ended : (time : ℕ) → ticked_at c r ≡ Some time → All (Carries P) a.slots → All (Carries (λ (k : Check). P k × Young time k)) left.slots

-- a message, by what was read of it
record NotedBy (P : Check → Type 0) (a : Association) (g : Result Message Refusal) (h : Handled) : Type 0 where
  next : a.next + (cond (is_heeded (of_message h.outcome)) (checks_by a g) 0 + 0) ≡ h.left.next
  clock : a.time ≡ h.left.time
  carried : ((k : Check) → k.issued ≡ a.time → a.next ≤ k.id → k.id < h.left.next → P k) → All (Carries P) a.slots → All (Carries P) h.left.slots

module _ (P : Check → Type 0) (u : Uncounted P) where
  -- a call that takes no Update ID, tells no time and leaves the next own ID, the time and the slots
  still : (a left : Association) (c : Call) (r : Answered) → checks_in a c r + announced_in c r ≡ 0 → ticked_at c r ≡ None → left.next ≡ a.next → left.time ≡ a.time →
      left.slots ≡ a.slots → Noted P a c r left
  still a left c r none_taken no_time n t s = record {
    next = omega arith;
    clock = rw no_time (sym t);
    carried = λ f p. rw s p;
    ended = λ time e. cc;
  }

  refused_noted : (a : Association) (c : Call) (r : Refusal) → Noted P a c (refused_by r) a
  refused_noted a c r = still a a c (refused_by r) (grind arith) (grind arith) refl refl refl

  arrival_noted : (a : Association) (size : ℕ) → Noted P a (arrival size) (answers a (arrival size)) (returned a (arrival size))
  arrival_noted a size =
      arrival_ends a size (λ (r : Answer). Noted P a (arrival size) (of_outcome r.outcome) r.association) (λ n. refused_noted a (arrival size) (refusal n))
      (still a (with_credit a (credited a.credit size)) (arrival size) done refl refl refl refl refl)

  send_noted : (a : Association) (size : ℕ) → Noted P a (send size) (answers a (send size)) (returned a (send size))
  send_noted a size =
      send_ends a size (λ (r : SendAnswer). Noted P a (send size) (of_send r.outcome) r.association) (λ n. refused_noted a (send size) (refusal n))
      (λ n e. still a a (send size) (granted_to n) refl refl refl refl refl)
      (λ n e q. still a (with_credit a (a.credit - size)) (send size) (granted_to n) refl refl refl refl refl)

  tick_noted : (a : Association) (time : ℕ) (buffer : List ℕ) → Noted P a (tick time buffer) (answers a (tick time buffer)) (returned a (tick time buffer))
  tick_noted a time buffer =
      tick_ends (λ (h : ticks.Ticked). Noted P a (tick time buffer) (of_outcome h.outcome) h.left) a (λ n. refused_noted a (tick time buffer) (refusal n)) time (length buffer)
      (λ q. record {
        next = omega arith;
        clock = refl;
        carried =
            λ f p.
            all_imply (Carries (λ (k : Check). P k × Young time k)) (Carries P) (carries_imply (λ (k : Check). P k × Young time k) P (λ k q. q.0))
            (resend_all time (expire_all time a.slots)) (ticked_carries P time (u time) a.slots p);
        ended =
            λ t e p.
            let same : t ≡ time = sym (ap (time_or 0) e) in
            rw same (ticked_carries P time (u time) a.slots p);
      })

  announce_noted : (a : Association) (list : List OwnLocator) (count inbound keymat : ℕ) (buffer : List ℕ) →
      Noted P a (announce list count inbound keymat buffer) (answers a (announce list count inbound keymat buffer)) (returned a (announce list count inbound keymat buffer))
  unfolding announcements.after_announcement
  announce_noted a list count inbound keymat buffer =
      announcement_ends (λ h. Noted P a (announce list count inbound keymat buffer) (of_outcome h.outcome) h.left) a
      (λ n. refused_noted a (announce list count inbound keymat buffer) (refusal n)) list count inbound keymat (length buffer)
      (λ p. record { next = omega arith; clock = refl; carried = λ f p. p; ended = λ t e. cc })

  -- a message that leaves all but the highest Update ID of the peer, and issues nothing
  quiet : (a : Association) (g : Result Message Refusal) (h : Handled) → cond (is_heeded (of_message h.outcome)) (checks_by a g) 0 ≡ 0 → h.left.next ≡ a.next →
      h.left.time ≡ a.time → h.left.slots ≡ a.slots → NotedBy P a g h
  quiet a g h none_taken n t s = record { next = omega arith; clock = sym t; carried = λ f p. rw s p }

  read_noted : (a : Association) (packet : List ℕ) (g : Result Message Refusal) (nonces : List ℕ) → NotedBy P a g (handle_reading a packet g nonces)
  unfolding after_move
  read_noted a packet (Err why) nonces = quiet a (Err why) _ refl refl refl refl
  read_noted a packet (Ok (PeerCheck c)) nonces =
      check_ends (NotedBy P a (Ok (PeerCheck c))) a (λ n. quiet a (Ok (PeerCheck c)) _ refl refl refl refl) c.id (opaque_of packet c)
      (λ q. quiet a (Ok (PeerCheck c)) _ refl refl refl refl) (λ q. quiet a (Ok (PeerCheck c)) _ refl refl refl refl)
  read_noted a packet (Ok (Reply e)) nonces =
      reply_ends (NotedBy P a (Ok (Reply e))) a (λ n. quiet a (Ok (Reply e)) _ refl refl refl refl) e
      (record { next = omega arith; clock = refl; carried = λ f p. verified_carried P e a.slots p })
  read_noted a packet (Ok (Move m set)) nonces =
      move_ends (NotedBy P a (Ok (Move m set))) a (λ n. quiet a (Ok (Move m set)) _ refl refl refl refl) m (listed_in set) nonces
      (quiet a (Ok (Move m set)) _ refl refl refl refl)
      (λ q r. record {
        next = omega arith;
        clock = refl;
        carried =
            λ f p.
            moved_carried P a.time (differs a m) m.echo (listed_in set) a.preferred a.next nonces a.slots (λ j h. f _ refl (omega arith) (omega arith)) p;
      })

  noted : (a : Association) (c : Call) → Noted P a c (answers a c) (returned a c)
  noted a (message packet authentic nonces eight buffer) =
      message_ends (λ (h : Handled). Noted P a (message packet authentic nonces eight buffer) (of_message h.outcome) h.left) a
      (λ n. refused_noted a (message packet authentic nonces eight buffer) (refusal n)) packet authentic nonces (length buffer)
      (λ p q r.
      let s = read_noted a packet (reading_of packet) nonces in
      record { next = s.next; clock = s.clock; carried = s.carried; ended = λ t e. cc })
  noted a (arrival size) = arrival_noted a size
  noted a (send size) = send_noted a size
  noted a (tick time buffer) = tick_noted a time buffer
  noted a (announce list count inbound keymat buffer) = announce_noted a list count inbound keymat buffer

-- the next own Update ID and the time, whatever the property
abbrev Any : Check → Type 0
Any k = Unit {0}

counted : (a : Association) (c : Call) → Noted Any a c (answers a c) (returned a c)
counted a c = noted Any (λ t k q. q) a c

-- ---- own Update IDs
-- the next own Update ID by the history is the association's
pub next_held : (a : Association) (cs : List Call) → next_id a.next (history a cs) ≡ (after a cs).next
unfolding next_id history after
next_held a [] = refl
next_held a (c ∷ cs) = ap (λ (n : ℕ). next_id n (history (returned a c) cs)) (counted a c).next ∙ next_held (returned a c) cs

next_rises : (next : ℕ) (h : List Step) → next ≤ next_id next h
unfolding next_id
next_rises next [] = omega arith
next_rises next (s ∷ ss) = let r = next_rises (next + ids_in s) ss in omega arith

next_append : (next : ℕ) (h g : List Step) → next_id next (h ++ g) ≡ next_id (next_id next h) g
unfolding next_id
next_append next [] g = refl
next_append next (s ∷ ss) g = next_append (next + ids_in s) ss g

-- "An Update ID is taken once in a sequence, by checks and by announcements together": no two calls take the same
pub taken_once : (next : ℕ) (before between : List Step) (one other : Step) (id : ℕ) → Takes id (next_id next before) one →
    Takes id (next_id next (before ++ (one ∷ between))) other → ⊥
unfolding next_id
taken_once next before between one other id p q =
    let later = next_rises (next_id next before + ids_in one) between in
    let there = next_append next before (one ∷ between) in
    let first = p.1 in
    let second = q.0 in
    absurd (omega arith)

-- ---- a check is given up
-- the Update ID of every check is taken already
abbrev pub Below : (next : ℕ) → Check → Type 0
Below next k = k.id < next

-- a check of this Update ID was issued then
abbrev IssuedAt : (id time : ℕ) → Check → Type 0
IssuedAt id time k = k.id ≡ id → k.issued ≡ time

-- it has not this Update ID
abbrev Other : (id : ℕ) → Check → Type 0
Other id k = k.id ≡ id → ⊥

-- a call keeps what is true of checks that are not new, of an Update ID that is taken
kept_by : (P : Check → Type 0) (a : Association) (c : Call) (id : ℕ) → Uncounted P → id < a.next → ((k : Check) → (k.id ≡ id → ⊥) → P k) →
    All (Carries P) a.slots → All (Carries P) (returned a c).slots
kept_by P a c id u h other p = (noted P u a c).carried (λ k i l m. other k (λ e. absurd (omega arith))) p

taken_stays : (a : Association) (c : Call) (id : ℕ) → id < a.next → id < (returned a c).next
taken_stays a c id h = let n = (counted a c).next in omega arith

-- after that tick, whatever follows
never_again : (a : Association) (cs : List Call) (id : ℕ) → id < a.next → All (Carries (Other id)) a.slots → is_outstanding id (after a cs) ≡ false
unfolding after
never_again a [] id h p =
    all_none (held_as (is_check id)) a.slots
    (all_imply (Carries (Other id)) (λ (s : Slot). held_as (is_check id) s ≡ false)
    (λ s q. carries_fails (is_check id) refl refl s (carries_imply (Other id) (Fails (is_check id)) (λ k o. ne_eqb id k.id (λ e. o (sym e))) s q)) a.slots p)
never_again a (c ∷ cs) id h p =
    never_again (returned a c) cs id (taken_stays a c id h) (kept_by (Other id) a c id (λ t k o. o) h (λ k o. o) p)

-- from the issue to that tick
until_ended : (a : Association) (cs : List Call) (between more : List Step) (ending : Step) (id issued time : ℕ) → history a cs ≡ between ++ (ending ∷ more) →
    id < a.next → All (Carries (IssuedAt id issued)) a.slots → ticked_at ending.call ending.answered ≡ Some time → issued + check_life ≤ time →
    is_outstanding id (after a cs) ≡ false
unfolding history after
until_ended a [] [] more ending id issued time e h p t l = cc
until_ended a [] (s ∷ ss) more ending id issued time e h p t l = cc
until_ended a (c ∷ cs) [] more ending id issued time e h p t l =
    let same : step_of a c ≡ ending = cc in
    let at : ticked_at c (answers a c) ≡ Some time = rw (← same) at t in
    never_again (returned a c) cs id (taken_stays a c id h)
    (all_imply (Carries (λ (k : Check). IssuedAt id issued k × Young time k)) (Carries (Other id))
    (carries_imply (λ (k : Check). IssuedAt id issued k × Young time k) (Other id)
    (λ k q f. let i = q.0 f in let y = not_given_up k.issued time q.1 in absurd (omega arith)))
    (returned a c).slots ((noted (IssuedAt id issued) (λ t k q. q) a c).ended time at p))
until_ended a (c ∷ cs) (s ∷ ss) more ending id issued time e h p t l =
    until_ended (returned a c) cs ss more ending id issued time (cc) (taken_stays a c id h)
    (kept_by (IssuedAt id issued) a c id (λ t k q. q) h (λ k o f. absurd (o f)) p) t l

-- from the beginning to the issue
pub issued_ends : (a : Association) (cs : List Call) (before between more : List Step) (issuing ending : Step) (id time : ℕ) → All (Carries (Below a.next)) a.slots →
    history a cs ≡ before ++ (issuing ∷ (between ++ (ending ∷ more))) → Issues id (next_id a.next before) issuing →
    ticked_at ending.call ending.answered ≡ Some time → last_tick a.time before + check_life ≤ time → is_outstanding id (after a cs) ≡ false
unfolding history after next_id last_tick
issued_ends a [] [] between more issuing ending id time p e i t l = cc
issued_ends a [] (s ∷ ss) between more issuing ending id time p e i t l = cc
issued_ends a (c ∷ cs) [] between more issuing ending id time p e i t l =
    let same : step_of a c ≡ issuing = cc in
    let took : Issues id a.next (step_of a c) = rw (← same) at i in
    let n = (counted a c).next in
    let last = took.1 in
    let first = took.0 in
    until_ended (returned a c) cs between more ending id a.time time (cc) (omega arith)
    ((noted (IssuedAt id a.time) (λ t k q. q) a c).carried (λ k i l m f. i)
    (all_imply (Carries (Below a.next)) (Carries (IssuedAt id a.time))
    (carries_imply (Below a.next) (IssuedAt id a.time) (λ k b f. absurd (omega arith))) a.slots p)) t l
issued_ends a (c ∷ cs) (s ∷ ss) between more issuing ending id time p e i t l =
    let same : step_of a c ≡ s = cc in
    let next : a.next + ids_in s ≡ (returned a c).next = rw (← same) (counted a c).next in
    let clock : time_or a.time (ticked_at s.call s.answered) ≡ (returned a c).time = rw (← same) (counted a c).clock in
    issued_ends (returned a c) cs ss between more issuing ending id time
    ((noted (Below (returned a c).next) (λ t k q. q) a c).carried (λ k i l m. m)
    (all_imply (Carries (Below a.next)) (Carries (Below (returned a c).next))
    (carries_imply (Below a.next) (Below (returned a c).next) (λ k b. omega arith)) a.slots p))
    (cc) (rw next at i) t (rw clock at l)
