-- One locator of a set: one that is cut short is refused, one that is not refused lies within the set, and what an answer says. Assumes nothing.
use mathlib.Core.Path.{◌≡◌, refl}
use mathlib.Core.Bool.{Bool, true, false, not, cond, ◌||◌, or-true}
use mathlib.Core.List.{List}
use Prim.Native.Nat.{ℕ, ◌+◌, ◌-◌, ◌*◌, ◌<◌, ◌≤◌}
use native.Mathlib.Omega.{arith}
use lib.Dec.{ltb, eqb}
use lib.ListN.{length}
use borrow.Author.Tests.{lt-ltb, ltb-false, eqb-true, not-false}
use Rattle.refusal.specs.declared.Refusal.{Refusal}
use Rattle.refusal.specs.Table.{refusal}
use Rattle.boolean.proofs.Laws.{or_false_left, or_false_right}
use Rattle.address.specs.Rules.{legal}
use Rattle.locator.specs.declared.ListedLocator.{ListedLocator}
use Rattle.std.specs.Prelude.{Result, Ok, Err}
use Rattle.locator.specs.Locators.{head_size, unit, traffic_at, kind_at, units_at, lifetime_at, listed_address, next_locator, ill_form, illegal_at, locator_step_at}

module _ (s : List ℕ) (at : ℕ) where
  -- a locator that has not 24 bytes is ill formed: its length is wrong, or it runs past the end
  short_ill : length s - at < 24 → ill_form s at ≡ true
  unfolding ill_form
  short_ill h = go (eqb (units_at s at) (4 + kind_at s at)) refl
    where
      go : (b : Bool) → eqb (units_at s at) (4 + kind_at s at) ≡ b
          → (ltb (length s) (next_locator s at) || (ltb 2 (traffic_at s at) || (ltb 1 (kind_at s at) || (not b || eqb (lifetime_at s at) 0)))) ≡ true
      go true e = rw (lt-ltb (length s) (next_locator s at) (omega (arith, eqb-true (units_at s at) (4 + kind_at s at) e)))
      go false e = simp or-true

  pub step_short : length s - at < 24 → Err (refusal 6) ≡ locator_step_at s at
  step_short h = rw (short_ill h)

  -- a locator that is not illegal lies within the set
  pub lies_within : illegal_at s at ≡ false → (next_locator s at ≤ length s) × (at < next_locator s at)
  unfolding ill_form
  lies_within h =
      let f = or_false_left (ill_form s at) (not (legal (listed_address s at))) h in
      (ltb-false (length s) (next_locator s at) (or_false_left (ltb (length s) (next_locator s at)) _ f), omega arith)

  -- its SPI, if it has one, and its address fill it: the address ends where the locator does
  pub address_ends : illegal_at s at ≡ false → at + head_size + unit * kind_at s at + 16 ≡ next_locator s at
  unfolding ill_form
  address_ends h =
      let f = or_false_left (ill_form s at) (not (legal (listed_address s at))) h in
      let past = or_false_right (ltb (length s) (next_locator s at)) _ f in
      let traffic = or_false_right (ltb 2 (traffic_at s at)) _ past in
      let kind = or_false_right (ltb 1 (kind_at s at)) _ traffic in
      let long = or_false_left (not (eqb (units_at s at) (4 + kind_at s at))) _ kind in
      omega (arith, eqb-true (units_at s at) (4 + kind_at s at) (not-false _ long))

-- what a step's answer says of its test
module _ (p : ListedLocator) (m : ℕ) (step : Result (ListedLocator × ℕ) Refusal) where
  pub is_listed_lem : (b : Bool) {found : ListedLocator × ℕ} → step ≡ cond b (Err (refusal 6)) (Ok (p, m)) → step ≡ Ok found → (b ≡ false) × (found ≡ (p, m))
  is_listed_lem true g e = (cc, cc)
  is_listed_lem false g e = (refl, cc)

  pub is_refused : (b : Bool) {why : Refusal} → step ≡ cond b (Err (refusal 6)) (Ok (p, m)) → step ≡ Err why → (b ≡ true) × (why ≡ refusal 6)
  is_refused true g e = (refl, cc)
  is_refused false g e = (cc, cc)
