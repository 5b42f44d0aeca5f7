-- Refusal 0 taken apart: an association that it does not refuse is sound, and a sound one it does not refuse. Assumes nothing.
use mathlib.Core.Path.{◌≡◌}
use mathlib.Core.Bool.{Bool, false, ◌||◌}
use Prim.Native.Nat.{ℕ, ◌<◌, ◌≤◌}
use lib.Dec.{leb, ltb}
use lib.ListN.{length}
use borrow.Author.Tests.{leb-false, ltb-false, le-ltb, lt-leb}
use Rattle.boolean.proofs.Laws.{or_false_left, or_false_right}
use Rattle.slot.specs.Found.{slot_count}
use Rattle.slots.specs.Rules.{clashing, bad_checks}
use Rattle.credit.specs.Credit.{credit_limit}
use Rattle.credit.specs.Clock.{time_limit}
use Rattle.association.specs.declared.Association.{Association}
use Rattle.association.specs.declared.Answer.{Answer}
use Rattle.association.specs.Form.{id_limit, beyond, refusal0, with_credit}

-- what refusal 0 asks of an association, as facts
pub record Sound (a : Association) : Type 0 where
  pub time : a.time < time_limit
  pub aged : a.aged ≤ a.time
  pub credit : a.credit ≤ credit_limit
  pub next : a.next ≤ id_limit
  pub preferred : beyond a.preferred ≡ false
  pub apart : clashing a.slots ≡ false
  pub checks : bad_checks a.time a.slots ≡ false

pub sound : (a : Association) → refusal0 a ≡ false → Sound a
unfolding refusal0
sound a p =
    let p6 : Bool = clashing a.slots || bad_checks a.time a.slots in
    let p5 : Bool = beyond a.preferred || p6 in
    let p4 : Bool = ltb id_limit a.next || p5 in
    let p3 : Bool = ltb credit_limit a.credit || p4 in
    let p2 : Bool = ltb a.time a.aged || p3 in
    let q2 : p2 ≡ false = or_false_right (leb time_limit a.time) p2 p in
    let q3 : p3 ≡ false = or_false_right (ltb a.time a.aged) p3 q2 in
    let q4 : p4 ≡ false = or_false_right (ltb credit_limit a.credit) p4 q3 in
    let q5 : p5 ≡ false = or_false_right (ltb id_limit a.next) p5 q4 in
    let q6 : p6 ≡ false = or_false_right (beyond a.preferred) p6 q5 in
    record {
      time = leb-false time_limit a.time (or_false_left (leb time_limit a.time) p2 p);
      aged = ltb-false a.time a.aged (or_false_left (ltb a.time a.aged) p3 q2);
      credit = ltb-false credit_limit a.credit (or_false_left (ltb credit_limit a.credit) p4 q3);
      next = ltb-false id_limit a.next (or_false_left (ltb id_limit a.next) p5 q4);
      preferred = or_false_left (beyond a.preferred) p6 q5;
      apart = or_false_left (clashing a.slots) (bad_checks a.time a.slots) q6;
      checks = or_false_right (clashing a.slots) (bad_checks a.time a.slots) q6;
    }

pub not_refused : (a : Association) → Sound a → refusal0 a ≡ false
unfolding refusal0
not_refused a s =
    rw (
      lt-leb time_limit a.time s.time,
      le-ltb a.time a.aged s.aged,
      le-ltb credit_limit a.credit s.credit,
      le-ltb id_limit a.next s.next,
      s.preferred,
      s.apart,
      s.checks,
    )

-- an association with its eight slots that refusal 0 does not refuse. A call can be handed no other number of slots: they are an array
pub record Formed (a : Association) : Type 0 where
  pub whole : length a.slots ≡ slot_count
  pub unrefused : refusal0 a ≡ false

-- a call keeps associations so
abbrev pub Keeps : (call : Association → Association) → Type 0
Keeps call = (a : Association) → Formed a → Formed (call a)

-- the answer leaves such an association
abbrev pub Leaves : Answer → Type 0
Leaves r = Formed r.association

pub credit_formed : (a : Association) (c : ℕ) → Formed a → c ≤ credit_limit → Formed (with_credit a c)
credit_formed a c p h =
    let s = sound a p.unrefused in
    record {
      whole = p.whole;
      unrefused =
          not_refused (with_credit a c)
          (record { time = s.time; aged = s.aged; credit = h; next = s.next; preferred = s.preferred; apart = s.apart; checks = s.checks });
    }
