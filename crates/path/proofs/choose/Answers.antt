use Rattle.std.proofs.Common.{refl, sym, ◌≡◌, ◌∙◌, ap, arith}
use Rattle.slot.specs.Found.{slot_at, empty_slot}
use Rattle.std.proofs.lemmas.Fn.{says_at}
use Rattle.std.proofs.lemmas.List.{get_or_past}
use Rattle.std.proofs.lemmas.Iterator.{YieldsList-from_slice}
use Rattle.std.proofs.lemmas.Iterator.Adapters.{position_from-zero}
use Rattle.std.proofs.lemmas.Iterator.Search.{position_from_yields_List}
use denote.Param.Members.{Called, step_gives, step_stays_lem}
use Rattle.path.specs.Choices.{lowest, choice}
use Rattle.path.proofs.choose.Goals.{in_default-via-in-Some+then-n-lt-SLOT_COUNT+else-fits, in_default-via-in-Some+else-n-lt-SLOT_COUNT, in_default-via-in_default}
use Rattle.path.proofs.choose.Goals as goal

-- the preferred slot fits
pub returns-in-Some : goal.returns-in-Some
returns-in-Some g c test e h =
    let t : test (slot_at c.in-Some.n c.args.slots.now) ≡ c.fits.result = sym (h _ _ (says_at g.F.Fn c.fits.ensures refl)) in
    rw c.in-Some.is (rw (t ∙ c.if-fits.true) refl)

-- it does not, or lies past the slots, or none is preferred: the lowest that fits is what `position` finds, since each of its calls leaves the closure as it was and gives the test's answer
pub returns-in_default : goal.returns-in_default
returns-in_default g c test e h =
    let found : c.position.result ≡ lowest test 0 c.args.slots.now =
    position_from_yields_List test _ _ c.position.result c.position.ensures.ran (YieldsList-from_slice _ c.iter.ensures.rest) (λ x b q k.
    let called : Called g.F.Fn c.args.fits (x, tt) b q = record { met = k.met } in
    (step_stays_lem g.F.Fn _ _ _ _ g.met.F.Fn.1 called, h _ _ (says_at g.F.Fn (step_gives g.F.Fn _ _ _ _ g.met.F.FnMut.1 called) refl)))
    ∙ position_from-zero test _ in
    let chosen : lowest test 0 c.args.slots.now ≡ choice test c.args.preferred c.args.slots.now = elim c.in_default.branch [
      | in_default-via-in-Some+then-n-lt-SLOT_COUNT+else-fits w ↦
          let t : test (slot_at w.in-Some.n c.args.slots.now) ≡ w.fits.result = sym (h _ _ (says_at g.F.Fn w.fits.ensures refl)) in
          rw w.in-Some.is (rw (t ∙ w.if-fits.false) refl)
      | in_default-via-in-Some+else-n-lt-SLOT_COUNT w ↦
          let past = get_or_past c.args.slots.now w.in-Some.n empty_slot (omega (arith, c.told-slots)) in
          rw w.in-Some.is (rw (ap test past ∙ e) refl)
      | in_default-via-in_default w ↦ rw w.in_default.is refl
    ] in
    cc
