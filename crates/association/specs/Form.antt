-- The association, refusal 0, and the answers to a call.
use Rattle.std.specs.Prelude.{ℕ, ◌^◌, Bool, false, ◌||◌, List, leb, ltb, Err, None, Ok, Option, Some}
use Rattle.refusal.specs.Table.{refusal}
use Rattle.slot.specs.declared.Slot.{Slot}
use Rattle.slot.specs.Found.{slot_count}
use Rattle.slots.specs.Rules.{clashing, bad_checks}
use Rattle.credit.specs.Credit.{credit_limit}
use Rattle.credit.specs.Clock.{time_limit}
use Rattle.association.specs.declared.Association.{Association}
use Rattle.association.specs.declared.Answer.{Answer}

-- own Update IDs end at 2^32: "next own ID over 2^32"
abbrev pub id_limit : ℕ
id_limit = 2 ^ 32

-- "preferred slot over 7"
abbrev pub beyond : Option ℕ → Bool
beyond None = false
beyond (Some n) = leb slot_count n

-- refusal 0: "the association handed in has time 2^40 or more, last ageing after its time, credit over the limit, next own ID over 2^32,
-- preferred slot over 7, an address held twice, or two equal outstanding nonces", and order 4: "an issue time after the stored time or a count over 4"
unfoldable pub refusal0 : Association → Bool
refusal0 a =
    leb time_limit a.time
    || (ltb a.time a.aged
    || (ltb credit_limit a.credit
    || (ltb id_limit a.next
    || (beyond a.preferred
    || (clashing a.slots
    || bad_checks a.time a.slots)))))

-- the association with another credit
abbrev pub with_credit : Association → (credit : ℕ) → Association
with_credit a c = record {
  outbound = a.outbound;
  inbound = a.inbound;
  time = a.time;
  aged = a.aged;
  credit = c;
  peer = a.peer;
  next = a.next;
  preferred = a.preferred;
  slots = a.slots;
}

-- the association with another time, time of last ageing, credit and slots
abbrev pub with_clock : Association → (time aged credit : ℕ) → List Slot → Association
with_clock a t g c ss = record {
  outbound = a.outbound;
  inbound = a.inbound;
  time = t;
  aged = g;
  credit = c;
  peer = a.peer;
  next = a.next;
  preferred = a.preferred;
  slots = ss;
}

-- the call is accepted and leaves this association
abbrev pub accepted : Association → Answer
accepted a = record { outcome = (Ok tt); association = a }

-- "A refusal returns its number": the call is refused by this number of document 01's table and leaves this association
abbrev pub refused : (number : ℕ) → Association → Answer
refused number a = record { outcome = Err (refusal number); association = a }
