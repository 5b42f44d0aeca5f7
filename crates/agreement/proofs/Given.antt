-- A listed address that is neither ACTIVE nor UNVERIFIED with the peer, or whose SPI changes, gets one of the new checks. Assumes nothing.
use Prim.Native.Nat.{ℕ, ◌+◌, ◌≤◌, ◌<◌}
use mathlib.Core.Path.{◌≡◌, refl, sym, ap, ◌∙◌}
use mathlib.Core.Bool.{Bool, true, false, not, ◌||◌}
use mathlib.Core.List.{List, [], ◌∷◌}
use lib.ListN.{length}
use native.Mathlib.Omega.{arith}
use Rattle.std.specs.Prelude.{None, Option, Some, option_map}
use Rattle.boolean.proofs.Laws.{apart}
use Rattle.address.specs.declared.Address.{Address}
use Rattle.locator.specs.declared.ListedLocator.{ListedLocator}
use Rattle.slot.specs.declared.Slot.{Slot}
use Rattle.slot.specs.declared.Status.{Status}
use Rattle.slot.specs.Found.{slot_count, or_else, status_in}
use Rattle.slots.proofs.Kept.{clear_pairs}
use Rattle.packet.specs.declared.EchoResponse.TheVariants.{Absent}
use Rattle.packet.specs.declared.MoveFields.{MoveFields}
use Rattle.readdress.specs.Checks.{check_count, checked_by, check_for}
use Rattle.readdress.specs.Steps.{is_listed}
use Rattle.readdress.proofs.Live.{live, is_dead}
use Rattle.readdress.proofs.Settled.{settled_status}
use Rattle.readdress.proofs.Placed.{placed_status}
use Rattle.readdress.proofs.Moved.{listed_live}
use Rattle.readdress.proofs.Checked.{checked_status, check_none}
use Rattle.association.specs.declared.Association.{Association}
use Rattle.association.proofs.Sound.{sound, Formed}
use Rattle.update.specs.Messages.{differs, placement, checks_of, after_move}
use Rattle.agreement.specs.Agreement.{in_use}

-- the check that an address gets is one of the new ones
check_within : (x : Address) (listed : List ListedLocator) (k j : ℕ) (ss : List Slot) → check_for x listed k ss ≡ Some j
    → (k ≤ j) × (j < k + check_count listed ss)
unfolding check_for check_count
check_within x listed k j [] h = cc
check_within x listed k j (s ∷ ss) h =
    let same = check_within x listed k j ss in
    let more = check_within x listed (k + 1) j ss in
    (grind (arith, same, more), grind (arith, same, more))

-- steps 1 to 4 leave such an address neither ACTIVE nor UNVERIFIED
none_live : (changes : Bool) (o : Option Status) → (changes || not (in_use o)) ≡ true → live (option_map (settled_status true changes Absent) o) ≡ None
none_live changes o h = grind arith

module _ (b : Association) (m : MoveFields) (listed : List ListedLocator) (nonces : List ℕ) (x : Address) where
  abbrev five : List Slot
  five = (placement b m listed).slots

  -- the address has check k
  pub record Given : Type 0 where
    pub k : ℕ
    pub within : k < checks_of b m listed
    pub status : status_in x (after_move b m listed nonces).slots ≡ Some (checked_by b.time b.next nonces k)

  after_is : status_in x (after_move b m listed nonces).slots ≡ or_else (option_map (checked_by b.time b.next nonces) (check_for x listed 0 five)) (status_in x five)
  unfolding after_move
  after_is = checked_status x listed b.time b.next nonces 0 five

  given : (k : ℕ) → check_for x listed 0 five ≡ Some k → Given
  given k h = record { k = k; within = let r = check_within x listed 0 k five h in omega (arith, r.1); status = after_is ∙ rw h }

  -- it is one that a Move without an echo response leaves UNVERIFIED
  pub new_given : Formed b → length listed ≤ slot_count → m.echo ≡ Absent → is_listed x listed ≡ true
      → (differs b m || not (in_use (status_in x b.slots))) ≡ true → Given
  unfolding after_move
  new_given formed few echo l new = go (check_for x listed 0 five) refl
    where
      was : live (status_in x five) ≡ None
      was =
          placed_status x b.time (differs b m) m.echo listed b.preferred b.slots
          ∙ rw (l, echo) (none_live (differs b m) (status_in x b.slots) new)

      alive : is_dead (status_in x (after_move b m listed nonces).slots) ≡ false
      alive =
          listed_live b.time (differs b m) m.echo listed b.preferred b.slots formed.whole b.next nonces few
          (clear_pairs b.slots (sound b formed.unrefused).apart) x l

      go : (o : Option ℕ) → check_for x listed 0 five ≡ o → Given
      go (Some k) h = given k h
      go None h =
          let empty : status_in x five ≡ None = sym (check_none x listed 0 five l h) ∙ was in
          let gone : status_in x (after_move b m listed nonces).slots ≡ None = after_is ∙ rw h empty in
          apart (sym (ap is_dead gone) ∙ alive)
