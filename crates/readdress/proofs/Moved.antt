-- A Move as a whole: what it keeps of slots that do not clash and of the preference, and that it leaves every listed address ACTIVE or UNVERIFIED.
-- Assumes nothing.
use mathlib.Core.Path.{◌≡◌, refl, ◌∙◌, sym, ap}
use mathlib.Core.Bool.{Bool, true, false}
use mathlib.Core.List.{List}
use Prim.Native.Nat.{ℕ, ◌≤◌, ◌<◌}
use lib.Dec.{eqb}
use lib.ListN.{get_or, length}
use native.Mathlib.Omega.{arith}
use Rattle.boolean.proofs.Laws.{cond_all, apart}
use Rattle.address.specs.declared.Address.{Address}
use Rattle.packet.specs.declared.EchoResponse.{EchoResponse}
use Rattle.locator.specs.declared.ListedLocator.{ListedLocator}
use Rattle.slot.proofs.Settled.{Clear}
use Rattle.slot.specs.Found.{holds, status_in, slot_count, or_else, is_active, is_unverified, found_as}
use Rattle.slot.specs.declared.Slot.{Slot}
use Rattle.slot.specs.declared.Status.{Status}
use Rattle.slot.specs.declared.Status.TheVariants.{Unverified, Active, Deprecated}
use Rattle.slots.proofs.Each.{Pairs}
use Rattle.slots.proofs.Statuses.{is_found, held_found}
use Rattle.path.proofs.Lowest.{lowest_within}
use Rattle.path.specs.Choices.{lowest}
use Rattle.reply_form.specs.Replies.{nonce_count}
use Rattle.readdress.specs.Checks.{check_count, refusal10, checked_by, check_for}
use Rattle.readdress.specs.Moves.{settled, placed, new_slots, new_preference}
use Rattle.readdress.specs.Steps.{is_listed, place_all, dropped, marked_entry, marked_slot, prefer}
use Rattle.readdress.specs.declared.Placement.{Placement}
use Rattle.readdress.proofs.Live.{live, is_dead}
use Rattle.readdress.proofs.Settled.{settled_status, settled_length, settled_apart, settled_without}
use Rattle.readdress.proofs.Placed.{entries_keep, placed_apart, placed_length, placed_without}
use Rattle.readdress.proofs.Checked.{checked_length, count_most, offered, checked_apart, checked_status, check_none}
use Rattle.readdress.proofs.Turned.{move_inactive}
use Rattle.readdress.proofs.Room.{Ready, settled_sorted, Rooms, rooms, all_held, each_listed}
use Rattle.std.specs.Prelude.{None, Option, Some, option_map, option_and_then}

marked_within : (listed : List ListedLocator) (ss : List Slot) (n : ℕ) → marked_slot listed ss ≡ Some n → n < length ss
marked_within listed ss n p = go (marked_entry listed) p
  where
    go : (o : Option ListedLocator) → option_and_then (λ (e : ListedLocator). lowest (holds e.address) 0 ss) o ≡ Some n → n < length ss
    go None q = let z : ◌≡◌ {A = ℕ} 0 1 = cc in absurd (omega arith)
    go (Some e) q = lowest_within (holds e.address) ss n q

module _ (time : ℕ) (differs : Bool) (e : EchoResponse) (listed : List ListedLocator) (p : Option ℕ) (ss : List Slot) (whole : length ss ≡ slot_count) where
  abbrev before : Placement
  before = record { slots = settled time differs e listed ss; preferred = p }

  pub placement_length : length (placed time differs e listed p ss).slots ≡ slot_count
  unfolding placed
  placement_length = placed_length time listed listed before slot_count (settled_length time differs e listed ss slot_count whole)

  -- there are no more new checks than slots
  pub checks_most : check_count listed (placed time differs e listed p ss).slots ≤ slot_count
  checks_most = let m = count_most listed (placed time differs e listed p ss).slots in let n = placement_length in omega arith

  -- what holds of no preference, of a preference for a slot that there is, and of the preference before, holds of the preference after
  pub preference_kept : (P : Option ℕ → Type 0) → P None → ((n : ℕ) → n < slot_count → P (Some n)) → P p →
      P (new_preference listed (placed time differs e listed p ss))
  unfolding placed
  preference_kept P unset within kept = marked (marked_slot listed (place_all time listed listed before).slots) refl
    where
      drop : (n : ℕ) (q : Option ℕ) → P q → P (dropped n q)
      drop n None r = r
      drop n (Some m) r = cond_all P (eqb n m) None (Some m) (λ u. unset) (λ u. r)

      five : P (place_all time listed listed before).preferred
      five = entries_keep time listed (λ (q : Placement). P q.preferred) (λ f q r h n found. drop n q.preferred r) listed before kept

      marked : (c : Option ℕ) → marked_slot listed (place_all time listed listed before).slots ≡ c → P (prefer c (place_all time listed listed before).preferred)
      marked None u = five
      marked (Some n) u =
          let m = marked_within listed (place_all time listed listed before).slots n u in
          let l = placement_length in
          within n (omega arith)

  module _ (next : ℕ) (nonces : List ℕ) where
    pub moved_length : length (new_slots listed time next nonces (placed time differs e listed p ss)) ≡ slot_count
    moved_length = checked_length listed time next nonces 0 (placed time differs e listed p ss).slots ∙ placement_length

    -- no address is held twice, and no two outstanding nonces are equal
    pub moved_apart : length nonces ≡ nonce_count → refusal10 nonces ss ≡ false → Pairs Clear ss →
        Pairs Clear (new_slots listed time next nonces (placed time differs e listed p ss))
    unfolding placed
    moved_apart eight q apart =
        let o = offered nonces ss q in
        let most = checks_most in
        checked_apart time next nonces listed 0 (place_all time listed listed before).slots
        (placed_apart time listed listed before (settled_apart time differs e listed ss apart))
        (record {
          apart = o.apart;
          fresh = λ j h. placed_without time listed (get_or nonces j 0) listed before (settled_without time differs e listed ss (get_or nonces j 0) (o.fresh j h));
        })
        (omega arith)

    module _ (few : length listed ≤ slot_count) (apart : Pairs Clear ss) where
      ready : Ready time listed before
      ready = record {
        whole = settled_length time differs e listed ss slot_count whole;
        apart = settled_apart time differs e listed ss apart;
        sorted = settled_sorted time listed differs e ss;
      }

      -- "Room is always found.": for each entry in its turn
      pub room_found : Rooms time listed listed before
      room_found = rooms time listed listed before few (each_listed listed) ready

      -- every address that is listed is ACTIVE or UNVERIFIED afterwards
      pub listed_live : (x : Address) → is_listed x listed ≡ true → is_dead (status_in x (new_slots listed time next nonces (placed time differs e listed p ss))) ≡ false
      unfolding placed
      listed_live x l =
          ap is_dead (checked_status x listed time next nonces 0 five)
          ∙ go (check_for x listed 0 five) (check_none x listed 0 five l) (held_found x five (all_held time listed x listed before l room_found l))
        where
          five : List Slot
          five = (place_all time listed listed before).slots

          found : (o : Option Status) → live o ≡ o → is_found o ≡ true → is_dead o ≡ false
          found None q r = sym r
          found (Some (Unverified k)) q r = refl
          found (Some Active) q r = refl
          found (Some Deprecated) q r = cc

          go : (c : Option ℕ) → (c ≡ None → live (status_in x five) ≡ status_in x five) → is_found (status_in x five) ≡ true →
              is_dead (or_else (option_map (checked_by time next nonces) c) (status_in x five)) ≡ false
          go None q r = found (status_in x five) (q refl) r
          go (Some j) q r = refl

      -- one that is neither ACTIVE nor UNVERIFIED after step 4 is UNVERIFIED: "DEPRECATED turns UNVERIFIED with a new check", and a new one "is UNVERIFIED"
      pub listed_unverified : (x : Address) → is_listed x listed ≡ true → live (option_map (settled_status (is_listed x listed) differs e) (status_in x ss)) ≡ None →
          found_as is_unverified (status_in x (new_slots listed time next nonces (placed time differs e listed p ss))) ≡ true
      listed_unverified x l q =
          go (status_in x (new_slots listed time next nonces (placed time differs e listed p ss))) (listed_live x l)
          (move_inactive x time differs e listed p next nonces ss q)
        where
          go : (o : Option Status) → is_dead o ≡ false → found_as is_active o ≡ false → found_as is_unverified o ≡ true
          go None r t = sym r
          go (Some (Unverified k)) r t = refl
          go (Some Active) r t = sym t
          go (Some Deprecated) r t = sym r
