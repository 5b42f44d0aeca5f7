-- Each turn of `walk`'s loop is a turn of the definition, and each answer is the one that the turn before it leads to.
use Rattle.std.proofs.Common.{◌≡◌, sym, ◌∙◌, rules}
use Rattle.frame.proofs.Turns.{unseen, headless, starts, ends, refuses, refuses_fall, goes}
use Rattle.frame.proofs.walk.Goals as goal

pub returns-then-not-header_holds : goal.returns-then-not-header_holds
returns-then-not-header_holds c = headless _ (sym c.if-not-header_holds.ensures)

pub loop-p-init : goal.loop-p-init
loop-p-init c = let e : c.default-seen.result ≡ unseen = search rules in rw e (starts _ (sym c.if-not-header_holds.ensures))

pub returns-in_err-p : goal.returns-in_err-p
returns-in_err-p c = search rules ∙ refuses _ _ _ _ c.loop-p.invariant c.in_err-p.ensures

pub returns-then-p-last : goal.returns-then-p-last
returns-then-p-last c = refuses_fall _ _ _ _ c.loop-p.invariant {p = c.in-Some.p} (search rules) c.if-p-last.true

pub loop-p-preserved : goal.loop-p-preserved
loop-p-preserved c = rw c.note.ensures (goes _ _ _ _ c.loop-p.invariant (search rules) c.if-p-last.false)

pub returns : goal.returns
returns c = ends _ _ _ _ c.loop-p.invariant (search rules)
