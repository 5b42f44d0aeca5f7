-- A tick keeps associations sound. Assumes nothing.
use mathlib.Core.Path.{◌∙◌}
use mathlib.Core.List.{List}
use Prim.Native.Nat.{ℕ, ◌≤◌, ◌<◌}
use lib.Dec.{leb, ltb}
use lib.ListN.{length, length-map}
use native.Mathlib.Omega.{arith}
use borrow.Author.Tests.{leb-false, ltb-false}
use Rattle.boolean.proofs.Laws.{or_false_left, or_false_right}
use Rattle.credit.specs.Clock.{time_limit, ageings}
use Rattle.credit.proofs.Ageing.{aged_at_most, last_at_most}
use Rattle.slot.specs.Checks.{resend_slot}
use Rattle.slot.specs.Expiry.{expire_slot}
use Rattle.slots.specs.Rules.{expire_all}
use Rattle.slots.proofs.Kept.{ticked_clashing, ticked_good}
use Rattle.association.specs.declared.Association.{Association}
use Rattle.association.proofs.Sound.{sound, not_refused, Formed, Keeps}
use Rattle.clock.specs.Ticks.{ticked, Ticked, tick_of}
use Rattle.clock.proofs.Ends.{tick_ends}

ticked_formed : (a : Association) (t : ℕ) → Formed a → a.time ≤ t → t < time_limit → Formed (ticked a t)
ticked_formed a t p h k =
    let s = sound a p.unrefused in
    let c = aged_at_most (ageings a.aged t) a.credit in
    let l = s.credit in
    let g = s.aged in
    record {
      whole = length-map (expire_all t a.slots) (resend_slot t) ∙ length-map a.slots (expire_slot t) ∙ p.whole;
      unrefused =
          not_refused (ticked a t)
          (record {
            time = k;
            aged = last_at_most a.aged t (omega arith);
            credit = omega arith;
            next = s.next;
            preferred = s.preferred;
            apart = ticked_clashing t a.slots s.apart;
            checks = ticked_good a.time t a.slots h s.checks;
          });
    }

pub tick_keeps : (t : ℕ) (buffer : List ℕ) → Keeps (λ a. (tick_of a t buffer).association)
tick_keeps t buffer a p =
    tick_ends (λ (h : Ticked). Formed h.left) a (λ n. p) t (length buffer)
    (λ q. ticked_formed a t p
    (ltb-false t a.time (or_false_left (ltb t a.time) (leb time_limit t) q.timely))
    (leb-false time_limit t (or_false_right (ltb t a.time) (leb time_limit t) q.timely)))
