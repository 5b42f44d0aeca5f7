-- What holds of every check that the slots carry before a message, and of the new ones, holds of every check after it: a kept check stays as it is. Assumes
-- nothing.
use mathlib.Core.Path.{◌≡◌, refl}
use mathlib.Core.Bool.{Bool, true, false, cond}
use mathlib.Core.List.{List, [], ◌∷◌}
use Prim.Native.Nat.{ℕ, ◌+◌, ◌≤◌, ◌<◌}
use native.Mathlib.Omega.{arith}
use Rattle.packet.specs.declared.EchoResponse.{EchoResponse}
use Rattle.locator.specs.declared.ListedLocator.{ListedLocator}
use Rattle.slot.specs.declared.Check.{Check}
use Rattle.slot.specs.declared.Slot.{Slot}
use Rattle.slot.specs.Found.{on_locator}
use Rattle.slot.proofs.Carried.{HeldBy, Carries, settled_carries}
use Rattle.slots.proofs.Each.{All, all_map, all_set}
use Rattle.readdress.specs.declared.Placement.{Placement}
use Rattle.readdress.specs.Echoes.{verify_locator, verify_all}
use Rattle.readdress.specs.Steps.{entered, place_all}
use Rattle.readdress.specs.Checks.{awaits, check_count, new_check, with_check, checked}
use Rattle.readdress.specs.Moves.{settled, placed, new_checks, new_slots}
use Rattle.readdress.proofs.Settled.{verify_settles, steps_keep}
use Rattle.readdress.proofs.Placed.{entries_keep}
use Rattle.std.specs.Prelude.{None, Option, Some}
use Rattle.slot.specs.declared.Locator.{Locator}

module _ (P : Check → Type 0) where
  -- step 1
  pub verified_carried : (e : EchoResponse) (ss : List Slot) → All (Carries P) ss → All (Carries P) (verify_all e ss)
  unfolding verify_all
  verified_carried e ss p = all_map (Carries P) (Carries P) (on_locator (verify_locator e)) (settled_carries P (verify_locator e) (verify_settles e)) ss p

  -- steps 1 to 4, and step 5
  settled_carried : (time : ℕ) (differs : Bool) (e : EchoResponse) (listed : List ListedLocator) (ss : List Slot) → All (Carries P) ss →
      All (Carries P) (settled time differs e listed ss)
  settled_carried time differs e listed ss p =
      steps_keep (All (Carries P)) (λ change s xs q. all_map (Carries P) (Carries P) (on_locator change) (settled_carries P change s) xs q) time differs e listed ss p

  placed_carried : (time : ℕ) (listed es : List ListedLocator) (p : Placement) → All (Carries P) p.slots → All (Carries P) (place_all time listed es p).slots
  placed_carried time listed es p q =
      entries_keep time listed (λ r. All (Carries P) r.slots) (λ e r s h n l. all_set (Carries P) r.slots n (entered time e) s tt) es p q

  -- the new checks, from check k on
  module _ (listed : List ListedLocator) (time next : ℕ) (nonces : List ℕ) where
    given_carried : (k : ℕ) (s : Slot) → P (new_check time next nonces k) → Carries P (with_check time next nonces k s)
    given_carried k s p = go s.holding
      where
        go : (h : Option Locator) → HeldBy P (with_check time next nonces k (record { holding = h })).holding
        go None = tt
        go (Some l) = p

    checked_carried : (k : ℕ) (ss : List Slot) → ((j : ℕ) → k ≤ j → j < k + check_count listed ss → P (new_check time next nonces j)) → All (Carries P) ss →
        All (Carries P) (checked listed time next nonces k ss)
    unfolding checked check_count All
    checked_carried k [] fresh p = tt
    checked_carried k (s ∷ ss) fresh p =
        go (awaits listed s) refl (λ f. checked_carried k ss f p.1) (λ f. checked_carried (k + 1) ss f p.1)
      where
        go : (b : Bool) → awaits listed s ≡ b →
            (((j : ℕ) → k ≤ j → j < k + check_count listed ss → P (new_check time next nonces j)) → All (Carries P) (checked listed time next nonces k ss)) →
            (((j : ℕ) → k + 1 ≤ j → j < k + 1 + check_count listed ss → P (new_check time next nonces j)) → All (Carries P) (checked listed time next nonces (k + 1) ss)) →
            All (Carries P) (cond b (with_check time next nonces k s ∷ checked listed time next nonces (k + 1) ss) (s ∷ checked listed time next nonces k ss))
        go true e same more =
            let counted : check_count listed (s ∷ ss) ≡ 1 + check_count listed ss = rw e in
            (given_carried k s (fresh k (omega arith) (omega arith)), more (λ j l m. fresh j (omega arith) (omega arith)))
        go false e same more =
            let counted : check_count listed (s ∷ ss) ≡ check_count listed ss = rw e in (p.0, same (λ j l m. fresh j l (omega arith)))

  -- a Move as a whole
  pub moved_carried : (time : ℕ) (differs : Bool) (e : EchoResponse) (listed : List ListedLocator) (p : Option ℕ) (next : ℕ) (nonces : List ℕ) (ss : List Slot) →
      ((j : ℕ) → j < new_checks listed (placed time differs e listed p ss) → P (new_check time next nonces j)) → All (Carries P) ss →
      All (Carries P) (new_slots listed time next nonces (placed time differs e listed p ss))
  unfolding placed
  moved_carried time differs e listed p next nonces ss fresh q =
      let before : Placement = record { slots = settled time differs e listed ss; preferred = p } in
      checked_carried listed time next nonces 0 (place_all time listed listed before).slots (λ j l m. fresh j (omega arith))
      (placed_carried time listed listed before (settled_carried time differs e listed ss q))
