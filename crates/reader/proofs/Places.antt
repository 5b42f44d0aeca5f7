-- What a parameter that a step at a cursor answers says of the packet. Assumes nothing.
use mathlib.Core.Path.{◌≡◌, ap, sym, ◌∙◌}
use mathlib.Core.Bool.{Bool, true, false, cond}
use mathlib.Core.List.{List}
use Prim.Native.Nat.{ℕ, ◌+◌, ◌-◌, ◌<◌, ◌≤◌}
use native.Mathlib.Omega.{arith}
use lib.ListN.{length}
use borrow.Author.Tests.{ltb-false}
use Rattle.boolean.proofs.Laws.{or_false_left}
use Rattle.std.specs.Prelude.{None, Some, Ok, Err}
use Rattle.refusal.specs.Table.{refusal}
use Rattle.parameter.specs.declared.Parameter.{Parameter}
use Rattle.parameter.specs.Parameters.{parameter_at, past_end, wrong, step_at, broken}
use Rattle.parameter.proofs.Steps.{at_found}
use Rattle.frame.specs.Parameters.{falls_below}
use Rattle.reader.specs.declared.Cursor.{Cursor}
use Rattle.reader.specs.Readers.{Step, found, unless_falling, stands_at, place_after, advanced_of}

-- a parameter is found where the walk's step finds it
found_by_step : (last : ℕ) (x : Step) {p : Parameter} → unless_falling last x ≡ found p → x ≡ found p
found_by_step last (Ok (Some q)) {p} e = go (falls_below last q) e
  where
    go : (b : Bool) → cond b (Err (refusal 3)) (found q) ≡ found p → found q ≡ found p
    go true h = cc
    go false h = h
found_by_step last (Ok None) e = cc
found_by_step last (Err why) e = cc

module _ (s : List ℕ) (c : Cursor) {p : Parameter} (e : found p ≡ (advanced_of s c).step) where
  stands : stands_at s c ≡ found p
  unfolding advanced_of
  stands = sym e

  place_of : (c.at < length s) × ((broken s (parameter_at s c.at) ≡ false) × (p ≡ parameter_at s c.at))
  place_of = at_found s c.at (sym (found_by_step c.last (step_at s c.at) stands))

  -- its L bytes lie within the packet
  pub body_within : p.body + p.len ≤ length s
  body_within =
      let within = ltb-false (length s) (parameter_at s c.at).next (or_false_left (past_end s (parameter_at s c.at)) (wrong (parameter_at s c.at)) place_of.1.0) in
      rw place_of.1.1 (omega arith)

  -- past it less of the packet is left: what falls at each turn of a loop
  pub less_left : length s - (advanced_of s c).cursor.at < length s - c.at
  unfolding advanced_of
  less_left =
      let next : (place_after c (stands_at s c)).at ≡ (parameter_at s c.at).next = ap (λ (x : Step). (place_after c x).at) stands ∙ ap (λ (x : Parameter). x.next) place_of.1.1 in
      omega (arith, place_of.0)
