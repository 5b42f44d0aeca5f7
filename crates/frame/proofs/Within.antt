-- "The part lies within the packet", once for every type of parameter. Assumes nothing.
use mathlib.Core.Path.{◌≡◌, refl}
use mathlib.Core.Bool.{Bool, true, false, not, cond, ◌||◌}
use mathlib.Core.List.{List, [], ◌∷◌}
use Prim.Native.Nat.{ℕ, zero, suc, ◌+◌, ◌≤◌}
use native.Mathlib.Omega.{arith}
use lib.Dec.{ltb, eqb}
use lib.ListN.{length}
use borrow.Author.Tests.{ltb-false, eqb-true, eqb-false}
use Rattle.boolean.proofs.Laws.{or_false_left, or_false_right}
use Rattle.octets.specs.Records.{records}
use Rattle.std.specs.List.{list_any}
use Rattle.parameter.specs.declared.Parameter.{Parameter}
use Rattle.frame.specs.declared.Occurrence.{Occurrence}
use Rattle.frame.specs.Header.{header_size, header_holds}
use Rattle.parameter.specs.Types.{wrong_length}
use Rattle.parameter.specs.Parameters.{parameter_at, past_end, wrong}
use Rattle.frame.specs.Parameters.{parameters, falls, ill_formed}
use Rattle.frame.specs.Survey.{never, counted, occurs, refusal3}

-- the parameters from a place on
abbrev from : List ℕ → (steps at : ℕ) → List Parameter
from s steps at = records (parameter_at s) (λ (p : Parameter). p.next) (length s) steps at

-- What holds of the first parameter of a type, and stays when more of the type follow, holds of the type's occurrences in a packet that
-- refusal 3 does not refuse by a parameter: the one induction along the walk
module _ (s : List ℕ) (type : ℕ) (P : Occurrence → Type 0)
    (first : (at : ℕ) → (parameter_at s at).next ≤ length s → wrong (parameter_at s at) ≡ false → (parameter_at s at).kind ≡ type
    → P (record { times = 1; body = (parameter_at s at).body; len = (parameter_at s at).len }))
    (more : (seen : Occurrence) → (seen.times ≡ 0 → ⊥) → P seen → P (record { times = 2; body = seen.body; len = seen.len })) where
  counted_keeps : (seen : Occurrence) (at : ℕ) → P seen → (parameter_at s at).next ≤ length s → wrong (parameter_at s at) ≡ false
      → P (counted type seen (parameter_at s at).kind (parameter_at s at).body (parameter_at s at).len)
  counted_keeps seen at h n w = go (eqb (parameter_at s at).kind type) (eqb seen.times 0) refl refl
    where
      go : (a b : Bool) → eqb (parameter_at s at).kind type ≡ a → eqb seen.times 0 ≡ b
          → P (cond a
          (cond b (record { times = 1; body = (parameter_at s at).body; len = (parameter_at s at).len })
          (record { times = 2; body = seen.body; len = seen.len })) seen)
      go true true e f = first at n w (eqb-true (parameter_at s at).kind type e)
      go true false e f = more seen (eqb-false seen.times 0 f) h
      go false true e f = h
      go false false e f = h

  occurs_keeps : (steps at : ℕ) (seen : Occurrence) → P seen → list_any (past_end s) (from s steps at) ≡ false → list_any wrong (from s steps at) ≡ false
      → P (occurs type seen (from s steps at))
  unfolding records occurs
  occurs_keeps zero at seen h e f = h
  occurs_keeps (suc steps) at seen h e f = go (ltb at (length s)) (occurs_keeps steps (parameter_at s at).next) e f
    where
      rest : List Parameter
      rest = from s steps (parameter_at s at).next

      go : (b : Bool) → ((y : Occurrence) → P y → list_any (past_end s) rest ≡ false → list_any wrong rest ≡ false → P (occurs type y rest))
          → list_any (past_end s) (cond b (parameter_at s at ∷ rest) []) ≡ false → list_any wrong (cond b (parameter_at s at ∷ rest) []) ≡ false
          → P (occurs type seen (cond b (parameter_at s at ∷ rest) []))
      go false ih e f = h
      go true ih e f =
          let p = parameter_at s at in
          ih (counted type seen p.kind p.body p.len)
          (counted_keeps seen at h (ltb-false (length s) p.next (or_false_left (past_end s p) (list_any (past_end s) rest) e))
          (or_false_left (wrong p) (list_any wrong rest) f))
          (or_false_right (past_end s p) (list_any (past_end s) rest) e) (or_false_right (wrong p) (list_any wrong rest) f)

  -- from the packet's first parameter on
  pub packet_keeps : P never → refusal3 s ≡ false → P (occurs type never (parameters s))
  packet_keeps h e =
      let ps = parameters s in
      let ill = or_false_right (not (header_holds s)) (ill_formed s 0 ps) e in
      let later = or_false_right (list_any (past_end s) ps) (falls 0 ps || list_any wrong ps) ill in
      occurs_keeps (length s) header_size never h (or_false_left (list_any (past_end s) ps) (falls 0 ps || list_any wrong ps) ill)
      (or_false_right (falls 0 ps) (list_any wrong ps) later)

-- in a packet that refusal 3 does not refuse, the first parameter of any type lies within the packet
pub lies_within : (s : List ℕ) (type : ℕ) → refusal3 s ≡ false
    → (occurs type never (parameters s)).body + (occurs type never (parameters s)).len ≤ length s
lies_within s type h =
    packet_keeps s type (λ (seen : Occurrence). seen.body + seen.len ≤ length s) (λ at n w e. omega arith) (λ seen t h. h) (omega arith) h

-- and its length is not wrong for the type
pub length_right : (s : List ℕ) (type : ℕ) → refusal3 s ≡ false → ((occurs type never (parameters s)).times ≡ 0 → ⊥)
    → wrong_length type (occurs type never (parameters s)).len ≡ false
length_right s type h =
    packet_keeps s type (λ (seen : Occurrence). (seen.times ≡ 0 → ⊥) → wrong_length type seen.len ≡ false)
    (λ at n w e t. rw e at w) (λ seen t h u. h t) (λ t. absurd (t refl)) h
