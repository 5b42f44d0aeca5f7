-- One step of the walk: what an answer says of the place. Assumes nothing.
use mathlib.Core.Path.{◌≡◌, refl}
use mathlib.Core.Bool.{Bool, true, false, cond}
use mathlib.Core.List.{List}
use Prim.Native.Nat.{ℕ, ◌<◌, ◌≤◌}
use lib.Dec.{leb}
use lib.ListN.{length}
use borrow.Author.Tests.{leb-true, leb-false}
use Rattle.std.specs.Prelude.{Option, None, Some, Result, Ok, Err}
use Rattle.refusal.specs.declared.Refusal.{Refusal}
use Rattle.refusal.specs.Table.{refusal}
use Rattle.parameter.specs.declared.Parameter.{Parameter}
use Rattle.parameter.specs.Parameters.{parameter_at, step_at, broken}

-- ---- what an answer of a step says of the tests e, for the end, and b, for a broken parameter
abbrev stands : (e b : Bool) (p : Parameter) → Result (Option Parameter) Refusal
stands e b p = cond e (Ok None) (cond b (Err (refusal 3)) (Ok (Some p)))

is_end : (e b : Bool) (p : Parameter) → Ok None ≡ stands e b p → e ≡ true
is_end true b p h = refl
is_end false true p h = cc
is_end false false p h = cc

is_refused : (e b : Bool) (p : Parameter) {r : Refusal} → Err r ≡ stands e b p → (e ≡ false) × ((b ≡ true) × (r ≡ refusal 3))
is_refused true b p h = (cc, (cc, cc))
is_refused false true p h = (refl, (refl, cc))
is_refused false false p h = (cc, (cc, cc))

is_found : (e b : Bool) (p : Parameter) {q : Parameter} → Ok (Some q) ≡ stands e b p → (e ≡ false) × ((b ≡ false) × (q ≡ p))
is_found true b p h = (cc, (cc, cc))
is_found false true p h = (cc, (cc, cc))
is_found false false p h = (refl, (refl, cc))

-- ---- what the answer at a place says of it
module _ (s : List ℕ) (at : ℕ) where
  pub at_end_lem : Ok None ≡ step_at s at → length s ≤ at
  at_end_lem e = leb-true _ _ (is_end (leb (length s) at) (broken s (parameter_at s at)) (parameter_at s at) e)

  pub at_refused : {why : Refusal} → Err why ≡ step_at s at → (at < length s) × ((broken s (parameter_at s at) ≡ true) × (why ≡ refusal 3))
  at_refused e = let q = is_refused (leb (length s) at) (broken s (parameter_at s at)) (parameter_at s at) e in (leb-false _ _ q.0, q.1)

  pub at_found : {p : Parameter} → Ok (Some p) ≡ step_at s at → (at < length s) × ((broken s (parameter_at s at) ≡ false) × (p ≡ parameter_at s at))
  at_found e = let q = is_found (leb (length s) at) (broken s (parameter_at s at)) (parameter_at s at) e in (leb-false _ _ q.0, q.1)
