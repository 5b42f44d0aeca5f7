-- Which case of the definitions each test leads to. Assumes nothing.
use mathlib.Core.Path.{◌≡◌, ap, sym, ◌∙◌}
use mathlib.Core.Bool.{true, false}
use mathlib.Core.List.{List}
use Prim.Native.Nat.{ℕ}
use native.Mathlib.Omega.{arith}
use Rattle.std.specs.Prelude.{Result, Ok}
use Rattle.refusal.specs.declared.Refusal.{Refusal}
use Rattle.parameter.specs.Types.{esp_info, locator_set}
use Rattle.frame.specs.Survey.{survey_of, refusal3, walk_of}
use Rattle.frame.specs.declared.Survey.{Survey}
use Rattle.frame.proofs.Answers.{walk_complete}
use Rattle.frame.proofs.Within.{lies_within}
use Rattle.packet.specs.Kinds.{is_move, is_reply, is_check}
use Rattle.packet.specs.Readings.{move_of, reply_of, check_of, kind_of, reading_of}
use Rattle.packet.specs.Parts.{Parts}

-- ---- the kind of message
module _ (s : List ℕ) (seen : Survey) where
  pub kind_move : is_move seen ≡ true → move_of s seen ≡ kind_of s seen
  unfolding kind_of
  kind_move h = rw h

  pub kind_reply : is_move seen ≡ false → is_reply seen ≡ true → reply_of s seen ≡ kind_of s seen
  unfolding kind_of
  kind_reply h e = rw (h, e)

  pub kind_check : is_move seen ≡ false → is_reply seen ≡ false → is_check seen ≡ true → check_of s seen ≡ kind_of s seen
  unfolding kind_of
  kind_check h e f = rw (h, e, f)

-- ---- a packet that refusal 3 does not refuse
-- refusal 4 neither
pub read_known : (s : List ℕ) {seen : Survey} → (refusal3 s ≡ false) × (seen ≡ survey_of s) → seen.unknown ≡ false → kind_of s seen ≡ reading_of s
unfolding reading_of
read_known s h e = ap (kind_of s) h.1 ∙ rw (h.0, sym (ap (λ (z : Survey). z.unknown) h.1) ∙ e)

-- the parts that are read as a Move's lie within it
pub parts_read : (s : List ℕ) (walked : Result Survey Refusal) (seen : Survey) → walked ≡ walk_of s → walked ≡ Ok seen → Parts s seen
parts_read s walked seen g e =
    let h = walk_complete s g e in
    rw h.1
    (record {
      esp = omega (arith, lies_within s esp_info h.0);
      set = lies_within s locator_set h.0;
    })
