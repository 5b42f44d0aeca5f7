-- The walk over the parameters, turn by turn. Assumes nothing.
use mathlib.Core.Path.{◌≡◌, refl, ap, sym, ◌∙◌}
use mathlib.Core.Bool.{Bool, true, false, cond, ◌||◌, or-false}
use mathlib.Core.List.{List, [], ◌∷◌}
use Prim.Native.Nat.{ℕ, ◌-◌, ◌<◌, ◌≤◌}
use native.Mathlib.Omega.{arith}
use lib.ListN.{length}
use borrow.Author.Tests.{lt-ltb, le-ltb}
use Rattle.boolean.proofs.Laws.{or_true}
use Rattle.std.specs.Prelude.{None, Some, Result, Ok, Err}
use Rattle.refusal.specs.declared.Refusal.{Refusal}
use Rattle.refusal.specs.Table.{refusal}
use Rattle.octets.specs.Records.{records}
use Rattle.std.specs.List.{list_any}
use Rattle.octets.proofs.Runs.{records_more, records_none}
use Rattle.parameter.specs.declared.Parameter.{Parameter}
use Rattle.parameter.proofs.Steps.{at_end_lem, at_refused, at_found}
use Rattle.frame.specs.declared.Survey.{Survey}
use Rattle.frame.specs.Header.{header_size, header_holds}
use Rattle.parameter.specs.Types.{esp_info, locator_set, seq, ack, echo_request_signed, echo_response_signed}
use Rattle.parameter.specs.Parameters.{parameter_at, step_at, broken}
use Rattle.frame.specs.Parameters.{falls_below, falls, ill_formed, ill_after}
use Rattle.frame.proofs.Formed.{ill_first}
use Rattle.frame.specs.Survey.{never, occurs, refused, walk_of}
use Rattle.frame.specs.Turn.{noted}

-- ---- the walk from any place on
-- what the parameters ps add to what was seen before them
abbrev pub surveyed : Survey → List Parameter → Survey
surveyed seen ps = record {
  unknown = list_any refused ps || seen.unknown;
  esp = occurs esp_info seen.esp ps;
  set = occurs locator_set seen.set ps;
  seq = occurs seq seen.seq ps;
  ack = occurs ack seen.ack ps;
  request = occurs echo_request_signed seen.request ps;
  echo = occurs echo_response_signed seen.echo ps;
}

-- nothing seen yet
abbrev pub unseen : Survey
unseen = record { unknown = false; esp = never; set = never; seq = never; ack = never; request = never; echo = never }

-- the answer of the walk over the parameters ps, after one of type `last` and what was seen before them
unfoldable pub judged : List ℕ → ℕ → Survey → List Parameter → Result Survey Refusal
judged s last seen ps = cond (ill_formed s last ps) (Err (refusal 3)) (Ok (surveyed seen ps))

-- a type that refusal 4 refuses is remembered
unknown_on : (r x n : Bool) → ((r || x) || n) ≡ (x || (r || n))
unknown_on true true n = refl
unknown_on true false n = refl
unknown_on false x n = refl

module _ (s : List ℕ) (last : ℕ) (seen : Survey) (p : Parameter) (ps : List Parameter) where
  judged_ill : ill_after s last p ≡ true → judged s last seen (p ∷ ps) ≡ Err (refusal 3)
  unfolding judged
  judged_ill h = rw (ill_first, h)

  judged_on : ill_after s last p ≡ false → judged s last seen (p ∷ ps) ≡ judged s p.kind (noted seen p.kind p.body p.len) ps
  unfolding judged occurs
  judged_on h = rw (ill_first, h, unknown_on (refused p) (list_any refused ps) seen.unknown)

-- what holds at the loop's head: the parameters from `at` on, after what was seen, give the walk's answer
pub record Walking (s : List ℕ) (seen : Survey) (last at : ℕ) : Type 0 where
  pub steps : ℕ
  pub enough : length s - at ≤ steps
  pub same : judged s last seen (records (parameter_at s) (λ (p : Parameter). p.next) (length s) steps at) ≡ walk_of s

pub headless : (s : List ℕ) → header_holds s ≡ false → Err (refusal 3) ≡ walk_of s
unfolding walk_of
headless s h = rw h

pub starts : (s : List ℕ) → header_holds s ≡ true → Walking s unseen 0 header_size
unfolding walk_of judged
starts s h = record { steps = length s; enough = omega arith; same = rw (h, or-false) }

-- a turn of the loop, by the step's answer
module _ (s : List ℕ) (seen : Survey) (last at : ℕ) (w : Walking s seen last at) where
  front : at < length s → judged s last seen (parameter_at s at ∷ records (parameter_at s) (λ (p : Parameter). p.next) (length s) (w.steps - 1) (parameter_at s at).next) ≡ walk_of s
  front h = ap (judged s last seen) (sym (records_more (parameter_at s) (λ (p : Parameter). p.next) (length s) w.steps at h w.enough)) ∙ w.same

  ended : judged s last seen [] ≡ Ok seen
  unfolding judged falls occurs
  ended = refl

  pub ends : Ok None ≡ step_at s at → Ok seen ≡ walk_of s
  ends e =
      sym ended
      ∙ (ap (judged s last seen) (sym (records_none (parameter_at s) (λ (p : Parameter). p.next) (length s) w.steps at (at_end_lem s at e))) ∙ w.same)

  pub refuses : {why : Refusal} → Err why ≡ step_at s at → Err why ≡ walk_of s
  refuses e =
      let q = at_refused s at e in
      let ill : ill_after s last (parameter_at s at) ≡ true = rw q.1.0 in
      ap Err q.1.1 ∙ (sym (judged_ill s last seen (parameter_at s at) _ ill) ∙ front q.0)

  pub refuses_fall : {p : Parameter} → Ok (Some p) ≡ step_at s at → p.kind < last → Err (refusal 3) ≡ walk_of s
  refuses_fall e f =
      let q = at_found s at e in
      let ill = or_true (broken s (parameter_at s at)) (falls_below last (parameter_at s at)) (lt-ltb _ _ (rw q.1.1 at f)) in
      sym (judged_ill s last seen (parameter_at s at) _ ill) ∙ front q.0

  goes_at : at < length s → broken s (parameter_at s at) ≡ false → last ≤ (parameter_at s at).kind
      → Walking s (noted seen (parameter_at s at).kind (parameter_at s at).body (parameter_at s at).len) (parameter_at s at).kind (parameter_at s at).next
  goes_at h b f = record {
    steps = w.steps - 1;
    enough = omega (arith, w.enough);
    same =
        (let well : ill_after s last (parameter_at s at) ≡ false = rw (b, le-ltb _ _ f) in sym (judged_on s last seen (parameter_at s at) _ well))
        ∙ front h;
  }

  pub goes : {p : Parameter} → Ok (Some p) ≡ step_at s at → last ≤ p.kind → Walking s (noted seen p.kind p.body p.len) p.kind p.next
  goes e f = let q = at_found s at e in rw q.1.1 (goes_at q.0 q.1.0 (rw q.1.1 at f))
