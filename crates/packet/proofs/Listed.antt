-- A Move that is read lists at most eight locators. Assumes nothing.
use mathlib.Core.List.{List}
use Prim.Native.Nat.{ℕ, ◌≤◌}
use native.Mathlib.Omega.{arith}
use Rattle.std.specs.Prelude.{Result, Ok, Err}
use Rattle.boolean.proofs.Laws.{cond_all}
use Rattle.refusal.specs.declared.Refusal.{Refusal}
use Rattle.frame.specs.Survey.{survey_of, refusal3, refusal4}
use Rattle.frame.specs.declared.Survey.{Survey}
use Rattle.locator_set.specs.Sets.{set_limit, refusal6}
use Rattle.locator_set.proofs.Listing.{count_most}
use Rattle.packet.specs.declared.Message.{Message}
use Rattle.packet.specs.declared.Message.TheVariants.{Move, Reply, PeerCheck}
use Rattle.packet.specs.Kinds.{is_move, is_reply, is_check}
use Rattle.packet.specs.Readings.{refused, set_bytes, move_of, reply_of, check_of, kind_of, reading_of}

-- how many locators a packet's reading lists
abbrev pub count_in : Result Message Refusal → ℕ
count_in (Err why) = 0
count_in (Ok (Move m set)) = set.count
count_in (Ok (Reply e)) = 0
count_in (Ok (PeerCheck c)) = 0

abbrev Few : Result Message Refusal → Type 0
Few r = count_in r ≤ set_limit

kind_few : (s : List ℕ) (seen : Survey) → Few (kind_of s seen)
unfolding kind_of
kind_few s seen =
    cond_all Few (is_move seen) (move_of s seen) _
    (λ e. cond_all Few (refusal6 (set_bytes s seen)) (refused 6) _ (λ f. omega arith) (λ f. count_most (set_bytes s seen) f))
    (λ e. cond_all Few (is_reply seen) (reply_of s seen) _ (λ f. omega arith)
    (λ f. cond_all Few (is_check seen) (check_of s seen) (refused 5) (λ g. omega arith) (λ g. omega arith)))

pub few_listed : (s : List ℕ) → count_in (reading_of s) ≤ set_limit
unfolding reading_of
few_listed s =
    cond_all Few (refusal3 s) (refused 3) _ (λ e. omega arith)
    (λ e. cond_all Few (refusal4 s) (refused 4) (kind_of s (survey_of s)) (λ f. omega arith) (λ f. kind_few s (survey_of s)))
