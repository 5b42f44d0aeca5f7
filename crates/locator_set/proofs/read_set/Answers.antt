-- Each answer is the law on the pass that its branch leads to.
use Rattle.std.proofs.Common.{rules, sym, ◌∙◌, refl, arith}
use Rattle.locator_set.proofs.Passes.{set_empty, set_starts, set_many, set_illegal, set_twice, set_marked, set_goes, set_ends}
use Rattle.locator_set.proofs.read_set.Goals.{then-count-eq-SET_LIMIT-via-then-count-eq-SET_LIMIT, then-count-eq-SET_LIMIT-via-else-count-eq-SET_LIMIT+then-marked-gt1, then-count-eq-SET_LIMIT-via-else-count-eq-SET_LIMIT+else-marked-gt1+then-is_twice}
use Rattle.locator_set.proofs.read_set.Goals as goal

pub returns-then-is_empty : goal.returns-then-is_empty
returns-then-is_empty c = set_empty _ (grind arith)

pub loop-at-init : goal.loop-at-init
loop-at-init c = rw c.no_locators-listed.ensures (set_starts _ _ refl (λ e. grind arith))

pub returns-in_err-locator : goal.returns-in_err-locator
returns-in_err-locator c =
    let refused = set_illegal _ _ _ _ _ _ c.loop-at.invariant c.loop-at-test.true _ c.locator_step.ensures c.in_err-locator.was in
    rw (← refused) (search rules)

pub returns-then-count-eq-SET_LIMIT : goal.returns-then-count-eq-SET_LIMIT
returns-then-count-eq-SET_LIMIT c = elim c.then-count-eq-SET_LIMIT.branch [
  | then-count-eq-SET_LIMIT-via-then-count-eq-SET_LIMIT w ↦ set_many _ _ _ _ _ _ c.loop-at.invariant c.loop-at-test.true w.if-count-eq-SET_LIMIT.true
  | then-count-eq-SET_LIMIT-via-else-count-eq-SET_LIMIT+then-marked-gt1 w ↦
      set_marked _ _ _ _ _ _ c.loop-at.invariant c.loop-at-test.true _ c.locator_step.ensures c.in_ok-locator.was c.from-marked.ensures w.if-marked-gt1.true
  | then-count-eq-SET_LIMIT-via-else-count-eq-SET_LIMIT+else-marked-gt1+then-is_twice w ↦
      set_twice _ _ _ _ _ _ c.loop-at.invariant c.loop-at-test.true _ c.locator_step.ensures c.in_ok-locator.was (sym w.is_twice.ensures ∙ w.if-is_twice.true)
]

pub loop-at-preserved : goal.loop-at-preserved
loop-at-preserved c =
    set_goes _ _ _ _ _ _ c.loop-at.invariant c.loop-at-test.true _ c.locator_step.ensures c.in_ok-locator.was c.if-count-eq-SET_LIMIT.false
    (sym c.is_twice.ensures ∙ c.if-is_twice.false) c.from-marked.ensures c.if-marked-gt1.false c.bucket_of.ensures.0

pub returns : goal.returns
returns c = set_ends _ _ _ _ _ _ c.loop-at.invariant c.loop-at-test.false
