-- `text::put_decimal` meets its contract, by the law of one digit more.
use Rattle.std.proofs.Common.{◌≡◌, ◌-◌, length-set, refl, sym, ◌∙◌, arith, take, drop}
use Rattle.std.proofs.lemmas.Slice.{between_to_end}
use Rattle.text.specs.Texts.{decimal_of}
use Rattle.text.proofs.Places.{no_digits, next_digit}
use Rattle.text.proofs.put_decimal.Goals as goal

pub loop-rest-init : goal.loop-rest-init
unfolding decimal_of
loop-rest-init c = rw c.glyph.ensures ((omega arith, refl), (omega arith, refl))

pub loop-rest-preserved : goal.loop-rest-preserved
loop-rest-preserved c =
    let l = c.loop-rest in
    let more = next_digit l.first l.rest l.places (omega arith) l.invariant.1.0 (omega arith) in (
      (omega arith, length-set l.places (l.first - 1) c.glyph-in-loop-rest.result ∙ l.invariant.0.1),
      (more.0, rw c.glyph-in-loop-rest.ensures (sym more.1 ∙ l.invariant.1.1)),
    )

pub returns : goal.returns
returns c =
    let l = c.loop-rest in
    let z : l.rest ≡ 0 = omega arith in
    let text : drop l.first l.places ≡ decimal_of c.args.n = rw (z, no_digits l.first) at l.invariant.1.1 in
    let whole : take (20 - l.first) (drop l.first l.places) ≡ decimal_of c.args.n = between_to_end l.places l.first 20 (omega arith) ∙ text in
    rw whole at c.put.ensures
