-- Every field that is read as a Move's lies within the packet, so that its number is that of its bytes. Assumes nothing.
use mathlib.Core.Path.{◌≡◌}
use mathlib.Core.Bool.{true, false}
use mathlib.Core.List.{List}
use Prim.Native.Nat.{ℕ, ◌+◌, ◌≤◌}
use native.Mathlib.Omega.{arith}
use lib.ListN.{length}
use borrow.Author.Tests.{eqb-true, not-false}
use Rattle.boolean.proofs.Laws.{and_true_left, and_true_right}
use Rattle.parameter.specs.Types.{esp_info, seq, esp_info_length, seq_length, wrong_length}
use Rattle.frame.specs.Parameters.{parameters}
use Rattle.frame.specs.Survey.{never, occurs, survey_of, refusal3}
use Rattle.frame.specs.declared.Survey.{Survey}
use Rattle.frame.proofs.Within.{lies_within, length_right}
use Rattle.packet.specs.Kinds.{exactly_one, is_move}

-- each of the three parameters that make a Move occurs once
pub move_once : (seen : Survey) → is_move seen ≡ true → (seen.esp.times ≡ 1) × (seen.set.times ≡ 1) × (seen.seq.times ≡ 1)
unfolding is_move
move_once seen m =
    let rest = and_true_right (exactly_one seen.esp) _ m in
    let last = and_true_right (exactly_one seen.set) _ rest in (
      eqb-true seen.esp.times 1 (and_true_left (exactly_one seen.esp) _ m),
      eqb-true seen.set.times 1 (and_true_left (exactly_one seen.set) _ rest),
      eqb-true seen.seq.times 1 (and_true_left (exactly_one seen.seq) _ last),
    )

module _ (s : List ℕ) (h : refusal3 s ≡ false) where
  -- a type that occurs once, and whose length must be n
  right : (type n : ℕ) → ((len : ℕ) → wrong_length type len ≡ false → len ≡ n) → (occurs type never (parameters s)).times ≡ 1
      → (occurs type never (parameters s)).len ≡ n
  right type n must once = must (occurs type never (parameters s)).len (length_right s type h (λ e. omega arith))

  -- the 12 bytes of ESP_INFO and the 4 of SEQ
  pub move_lengths : is_move (survey_of s) ≡ true → ((survey_of s).esp.len ≡ esp_info_length) × ((survey_of s).seq.len ≡ seq_length)
  unfolding wrong_length
  move_lengths m =
      let once = move_once (survey_of s) m in (
        right esp_info esp_info_length (λ len e. eqb-true len esp_info_length (not-false _ e)) once.0,
        right seq seq_length (λ len e. eqb-true len seq_length (not-false _ e)) once.2,
      )

  pub move_fits : is_move (survey_of s) ≡ true
      → ((survey_of s).esp.body + esp_info_length ≤ length s) × ((survey_of s).seq.body + seq_length ≤ length s)
  move_fits m =
      let long = move_lengths m in
      (omega (arith, long.0, lies_within s esp_info h), omega (arith, long.1, lies_within s seq h))
