-- Demands 1 and 3 as claims, in the users' words, which stand in quotation marks; what is document 01's says so. `proofs/Calls.antt` proves demand 1 of
-- every call, and `proofs/Theorem.antt` demand 3 of every sequence from an accepted start.
use Rattle.std.specs.Prelude.{ℕ, ◌+◌, ◌*◌, ◌^◌, ◌≤◌, ◌≡◌, true, false, ◌≢◌, ◌⊎◌, ◌↔◌, List, ◌∷◌, ◌++◌, None, Some}
use Rattle.refusal.specs.declared.Refusal.{Refusal}
use Rattle.address.specs.declared.Address.{Address}
use Rattle.check_times.specs.Times.{check_life}
use Rattle.slot.specs.declared.Check.{Check}
use Rattle.slot.specs.declared.Status.TheVariants.{Unverified, Active, Deprecated}
use Rattle.association.specs.declared.Association.{Association}
use Rattle.association.specs.Form.{refusal0}
use Rattle.history.specs.Calls.{Call, refused_by, answers, returned, lent, lent_after, is_accepted, is_repeat, Step, step_of, history, after}
use Rattle.history.specs.Ledger.{Entry, ledger, credit_held, arrived_in, granted_in, ageings_in, NoArrival}
use Rattle.history.specs.Words.{finds, leaves, is_authentic, echoed, lists, retires, outstanding}
use Rattle.history.specs.Issued.{next_id, Issues, ticked_at, last_tick, is_outstanding}

-- Demand 1, of the call c where it is refused: "A refused call names its reason, gives back the association it was given, and writes nothing in the reply
-- buffer." "No call expects its caller to have looked first.": the association a is any
pub record Demand1 (a : Association) (c : Call) : Type 0 where
  -- "names its reason"
  pub reason : Refusal
  pub named : answers a c ≡ refused_by reason
  -- "gives back the association it was given"
  pub given_back : returned a c ≡ a
  -- "writes nothing in the reply buffer", nor in another that it is lent
  pub unwritten : lent_after a c ≡ lent c

-- "it is an accepted message, marked authentic and not a repeat, that echoes the nonce outstanding for that address at that moment and does not itself retire
-- it, by a changed SPI or a list without it": of the call s after the history h
pub record Verifies (x : Address) (h : List Step) (s : Step) : Type 0 where
  -- "marked authentic": only a message is
  pub authentic : is_authentic s.call ≡ true
  -- "an accepted message"
  pub accepted : is_accepted s.answered ≡ true
  -- "not a repeat"
  pub not_a_repeat : is_repeat s.answered ≡ false
  -- "echoes the nonce outstanding for that address at that moment"
  pub nonce : ℕ
  pub echoes : echoed s.call ≡ Some nonce
  pub outstanding_then : outstanding x h ≡ Some nonce
  -- "does not itself retire it, by a changed SPI or a list without it"
  pub not_retired : retires x s.found s.call ≡ false

-- the ledger of the calls cs on the association a
abbrev pub ledger_of : Association → List Call → List Entry
ledger_of a cs = ledger a.aged (history a cs)

-- the call c after the calls cs on the association a
abbrev pub next : Association → List Call → Call → Step
next a cs c = step_of (after a cs) c

-- Demand 3, of the calls cs on the association a, and of any one call after them. "Take every sequence of messages, arrivals, sends and ticks on one newly
-- started association, refused calls included.": cs is any list, and the theorem has a from an accepted start. "Each is handed what the last one left, and
-- nobody else writes it.": so `history` and `after` are made. "Whatever the peer sends, the clock says and the nonces are, this holds after each call.": a
-- call in cs has any inputs, and cs any length. Each other sentence is one field
pub record Demand3 (a : Association) (cs : List Call) : Type 0 where
  -- Document 01 of "Credit held": "The association's credit equals it after each call."
  pub credit_held_lem : (after a cs).credit ≡ credit_held (ledger_of a cs)
  -- "The bytes granted to UNVERIFIED addresses add up to no more than those of the arrivals accepted so far."
  pub granted_arrived : granted_in (ledger_of a cs) ≤ arrived_in (ledger_of a cs)
  -- "After any k successive ageings, k at least 1, with no accepted arrival among them, 8^k times what is so granted from then to the next accepted arrival
  -- is at most 7^k times the credit held before the first.": the ageings are those in `among`. The sentence asks less: here k may be 0, `among` may have
  -- grants in it, and `since` may end before the next accepted arrival, or be all that follows where there is none
  pub decayed : (before among since rest : List Entry) → ledger_of a cs ≡ before ++ (among ++ (since ++ rest)) → NoArrival among → NoArrival since →
      8 ^ ageings_in among * granted_in since ≤ 7 ^ ageings_in among * credit_held before
  -- "A call that finds an address UNVERIFIED leaves it ACTIVE exactly when" `Verifies` holds, which has the rest of the sentence
  pub verified_exactly : (c : Call) (x : Address) (k : Check) → finds x (next a cs c) ≡ Some (Unverified k) →
      (leaves x (next a cs c) ≡ Some Active) ↔ Verifies x (history a cs) (next a cs c)
  -- "No call makes an address ACTIVE that it finds DEPRECATED or not held."
  pub never_revived : (c : Call) (x : Address) → (finds x (next a cs c) ≡ Some Deprecated) ⊎ (finds x (next a cs c) ≡ None) →
      leaves x (next a cs c) ≢ Some Active
  -- Document 01 of step 5: "Room is always found.": an accepted Move leaves every address that it lists ACTIVE or UNVERIFIED
  pub listed_held_lem : (c : Call) (x : Address) → is_accepted (next a cs c).answered ≡ true → is_repeat (next a cs c).answered ≡ false → lists x c ≡ true →
      (leaves x (next a cs c) ≢ None) × (leaves x (next a cs c) ≢ Some Deprecated)
  -- Order 4: "no check is still outstanding after that tick", the first accepted one "16 or more seconds after issue". The check of this Update ID is issued by the
  -- Move `issuing`, at the time of the last accepted tick before it, or the stored time at the beginning; `ending` is an accepted tick, at `time`; and `rest` is any
  -- calls that follow it
  pub given_up_lem : (before between rest : List Step) (issuing ending : Step) (id time : ℕ) → history a cs ≡ before ++ (issuing ∷ (between ++ (ending ∷ rest))) →
      Issues id (next_id a.next before) issuing → ticked_at ending.call ending.answered ≡ Some time → last_tick a.time before + check_life ≤ time →
      is_outstanding id (after a cs) ≡ false
  -- Document 01 of refusal 0: "from a start on, no call yields such an association"
  pub never_refused : refusal0 (after a cs) ≡ false
