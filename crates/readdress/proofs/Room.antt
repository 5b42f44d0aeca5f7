-- "Room is always found.": eight slots, no address held twice and at most eight listed, so an address that is listed and not held finds a slot; and
-- afterwards every listed address is held. Assumes nothing.
use mathlib.Core.Path.{◌≡◌, refl, ◌∙◌, sym}
use mathlib.Core.Bool.{Bool, true, false, cond, ◌||◌, not}
use mathlib.Core.Logic.{◌≢◌}
use mathlib.Core.List.{List, [], ◌∷◌, map}
use Prim.Native.Nat.{ℕ, ◌≤◌, ◌<◌, zero, suc}
use lib.ListN.{length-set, set, length}
use native.Mathlib.Omega.{arith}
use borrow.Author.Tests.{not-false}
use borrow.Author.Tests.{not-false}
use Rattle.boolean.proofs.Laws.{cond_all, apart, and_false, or_true, or_false_left}
use Rattle.address.proofs.Equal.{same_equal, same_self}
use Rattle.address.specs.Rules.{same_address}
use Rattle.address.specs.declared.Address.{Address}
use Rattle.packet.specs.declared.EchoResponse.{EchoResponse}
use Rattle.locator.specs.declared.ListedLocator.{ListedLocator}
use Rattle.slot.proofs.Settled.{Clear}
use Rattle.slot.specs.Clashes.{same_nonce, clash_held, clash}
use Rattle.slot.specs.Found.{on_held, on_locator, is_deprecated, holds, slot_at, slot_count}
use Rattle.slot.specs.declared.Locator.{Locator}
use Rattle.slot.specs.declared.Slot.{Slot}
use Rattle.slots.proofs.Each.{All, Pairs, none_all, all_imply, all_both, all_set}
use Rattle.path.proofs.Lowest.{lowest_fit, lowest_within, lowest_nowhere}
use Rattle.path.specs.Choices.{lowest}
use Rattle.readdress.specs.Echoes.{verify_all}
use Rattle.readdress.specs.Moves.{settled}
use Rattle.readdress.specs.Steps.{deprecate, rebind, renew_all, is_listed, retire, retire_all, free_held, is_free, entered, place_at, place, is_held, place_other, place_all}
use Rattle.readdress.specs.declared.Placement.{Placement}
use Rattle.readdress.proofs.Placed.{entered_clear, entry_keeps, entries_keep, take_apart, free_other}
use Rattle.std.specs.Prelude.{None, Option, Some}

-- ---- more slots than listed addresses cannot all hold one
-- a set without its first entry for an address
unfoldable without : Address → List ListedLocator → List ListedLocator
without x [] = []
without x (e ∷ es) = cond (same_address x e.address) es (e ∷ without x es)

without_length : (x : Address) (listed : List ListedLocator) → is_listed x listed ≡ true → suc (length (without x listed)) ≡ length listed
unfolding without
without_length x [] p = let z : ◌≡◌ {A = ℕ} 0 1 = cc in absurd (omega arith)
without_length x (e ∷ es) p = go (without_length x es) (same_address x e.address) p
  where
    go : (is_listed x es ≡ true → suc (length (without x es)) ≡ length es) → (b : Bool) → (b || is_listed x es) ≡ true →
        suc (length (cond b es (e ∷ without x es))) ≡ suc (length es)
    go ih true p = refl
    go ih false p = rw (ih p)

without_lists : (x y : Address) (listed : List ListedLocator) → same_address x y ≡ false → is_listed y listed ≡ true → is_listed y (without x listed) ≡ true
unfolding without
without_lists x y [] p q = q
without_lists x y (e ∷ es) p q = go (without_lists x y es p) (same_address x e.address) (same_address y e.address) refl refl q
  where
    go : (is_listed y es ≡ true → is_listed y (without x es) ≡ true) → (b c : Bool) → same_address x e.address ≡ b → same_address y e.address ≡ c →
        (c || is_listed y es) ≡ true → is_listed y (cond b es (e ∷ without x es)) ≡ true
    go ih true true u v r =
        let same : x ≡ y = same_equal x e.address u ∙ sym (same_equal y e.address v) in
        apart (sym (rw same (same_self y)) ∙ p)
    go ih true false u v r = r
    go ih false true u v r = rw v
    go ih false false u v r = rw v (ih r)

-- what is held is listed
abbrev listed_held : List ListedLocator → Option Locator → Bool
listed_held listed None = false
listed_held listed (Some l) = is_listed l.address listed

abbrev HoldsListed : List ListedLocator → Slot → Type 0
HoldsListed listed s = listed_held listed s.holding ≡ true

less : (listed : List ListedLocator) (l : Locator) (h : Option Locator) → clash_held (Some l) h ≡ false → listed_held listed h ≡ true →
    listed_held (without l.address listed) h ≡ true
less listed l None p q = q
less listed l (Some m) p q =
    without_lists l.address m.address listed (or_false_left (same_address l.address m.address) (same_nonce l.status m.status) p) q

held_most : (ss : List Slot) (listed : List ListedLocator) → Pairs Clear ss → All (HoldsListed listed) ss → length ss ≤ length listed
unfolding Pairs All clash
held_most [] listed p q = omega arith
held_most (s ∷ ss) listed p q = go (λ k. held_most ss k) s.holding refl q.0
  where
    go : ((k : List ListedLocator) → Pairs Clear ss → All (HoldsListed k) ss → length ss ≤ length k) → (h : Option Locator) → s.holding ≡ h → listed_held listed h ≡ true →
        suc (length ss) ≤ length listed
    go ih None e r = let z : ◌≡◌ {A = ℕ} 0 1 = cc in absurd (omega arith)
    go ih (Some l) e r =
        let shorter = without_length l.address listed r in
        let rest =
        ih (without l.address listed) p.1
        (all_both (Clear s) (HoldsListed listed) (HoldsListed (without l.address listed))
        (λ t u v. less listed l t.holding (rw e at u) v) ss p.0 q.1) in
        omega arith

-- ---- step 5 finds room
module _ (time : ℕ) (listed : List ListedLocator) where
  -- a slot is free, or holds an address that is listed
  abbrev Sorted : Slot → Type 0
  Sorted s = is_free listed s ≡ not (listed_held listed s.holding)

  -- what step 5 begins with and each placing keeps
  pub record Ready (p : Placement) : Type 0 where
    pub whole : length p.slots ≡ slot_count
    pub apart : Pairs Clear p.slots
    pub sorted : All Sorted p.slots

  retired_sorted : (ss : List Slot) → All Sorted (map (on_locator (retire listed)) ss)
  unfolding All
  retired_sorted [] = tt
  retired_sorted (s ∷ ss) = (held s.holding, retired_sorted ss)
    where
      go : (l : Locator) (b : Bool) → is_listed l.address listed ≡ b →
          free_held listed (Some (cond b l (deprecate l))) ≡ not (listed_held listed (Some (cond b l (deprecate l))))
      go l true p = rw p (and_false (is_deprecated l.status))
      go l false p = refl

      held : (h : Option Locator) → free_held listed (on_held (retire listed) h) ≡ not (listed_held listed (on_held (retire listed) h))
      held None = refl
      held (Some l) = go l (is_listed l.address listed) refl

  pub settled_sorted : (differs : Bool) (e : EchoResponse) (ss : List Slot) → All Sorted (settled time differs e listed ss)
  unfolding settled retire_all
  settled_sorted differs e ss = retired_sorted (renew_all time listed (rebind differs (verify_all e ss)))

  -- a listed address that is not held finds a slot
  pub room : (e : ListedLocator) (p : Placement) → length listed ≤ slot_count → is_listed e.address listed ≡ true → is_held e.address p.slots ≡ false →
      Ready p → lowest (is_free listed) 0 p.slots ≢ None
  unfolding Pairs All
  room e p few l h r none_free =
      let taken = lowest_nowhere (is_free listed) 0 p.slots none_free in
      let all_listed =
      all_both (λ s. is_free listed s ≡ false) Sorted (HoldsListed listed) (λ s u v. not-false (listed_held listed s.holding) (sym v ∙ u)) p.slots
      taken r.sorted in
      let away = all_imply (λ s. holds e.address s ≡ false) (Clear (entered time e)) (entered_clear time e) p.slots (none_all (holds e.address) p.slots h) in
      let most = held_most (entered time e ∷ p.slots) listed (away, r.apart) (l, all_listed) in
      let whole = r.whole in
      omega arith

  entered_sorted : (e : ListedLocator) → is_listed e.address listed ≡ true → Sorted (entered time e)
  entered_sorted e p = rw p

  entry_ready : (e : ListedLocator) (p : Placement) → is_listed e.address listed ≡ true → Ready p → Ready (place_other time listed e p)
  entry_ready e p l r =
      entry_keeps time listed Ready e p
      (λ h n found. record {
        whole = length-set p.slots n (entered time e) ∙ r.whole;
        apart = take_apart time listed e p.slots n h r.apart;
        sorted = all_set Sorted p.slots n (entered time e) r.sorted (entered_sorted e l);
      })
      r

  -- every entry that needs a slot finds one, in its turn
  pub Rooms : List ListedLocator → Placement → Type 0
  Rooms [] p = Unit {0}
  Rooms (e ∷ es) p = (is_held e.address p.slots ≡ false → lowest (is_free listed) 0 p.slots ≢ None) × Rooms es (place_other time listed e p)

  abbrev Listed : ListedLocator → Type 0
  Listed e = is_listed e.address listed ≡ true

  pub rooms : (es : List ListedLocator) (p : Placement) → length listed ≤ slot_count → All Listed es → Ready p → Rooms es p
  unfolding Rooms All
  rooms [] p few ls r = tt
  rooms (e ∷ es) p few ls r = (λ h. room e p few ls.0 h r, rooms es (place_other time listed e p) few ls.1 (entry_ready e p ls.0 r))

  -- an address stays held where another slot is taken, and is held in the slot that it takes
  other_held : (x : Address) (ss : List Slot) (n : ℕ) (y : Slot) → holds x (slot_at n ss) ≡ false → is_held x ss ≡ true → is_held x (set ss n y) ≡ true
  other_held x [] n y p q = q
  other_held x (s ∷ ss) zero y p q = or_true (holds x y) (is_held x ss) (rw p at q)
  other_held x (s ∷ ss) (suc n) y p q = go (other_held x ss n y p) (holds x s) q
    where
      go : (is_held x ss ≡ true → is_held x (set ss n y) ≡ true) → (b : Bool) → (b || is_held x ss) ≡ true → (b || is_held x (set ss n y)) ≡ true
      go ih true q = refl
      go ih false q = ih q

  taken_held : (x : Address) (ss : List Slot) (n : ℕ) (y : Slot) → n < length ss → holds x y ≡ true → is_held x (set ss n y) ≡ true
  taken_held x [] n y p q = absurd (omega arith)
  taken_held x (s ∷ ss) zero y p q = rw q
  taken_held x (s ∷ ss) (suc n) y p q = or_true (holds x s) (is_held x (set ss n y)) (taken_held x ss n y (omega arith) q)

  keeps_held : (x : Address) (e : ListedLocator) (p : Placement) (n : ℕ) → is_listed x listed ≡ true → lowest (is_free listed) 0 p.slots ≡ Some n →
      is_held x p.slots ≡ true → is_held x (set p.slots n (entered time e)) ≡ true
  keeps_held x e p n l found h =
      other_held x p.slots n (entered time e) (free_other x listed (slot_at n p.slots) l (lowest_fit (is_free listed) p.slots n found)) h

  all_keep_held : (x : Address) (es : List ListedLocator) (p : Placement) → is_listed x listed ≡ true → is_held x p.slots ≡ true →
      is_held x (place_all time listed es p).slots ≡ true
  all_keep_held x es p l h = entries_keep time listed (λ q. is_held x q.slots ≡ true) (λ e q s u n found. keeps_held x e q n l found s) es p h

  place_holds : (e : ListedLocator) (p : Placement) (c : Option ℕ) → lowest (is_free listed) 0 p.slots ≡ c → c ≢ None →
      is_held e.address (place_at time e c p).slots ≡ true
  place_holds e p None q u = absurd (u refl)
  place_holds e p (Some n) q u =
      taken_held e.address p.slots n (entered time e) (lowest_within (is_free listed) p.slots n q) (same_self e.address)

  entry_holds : (e : ListedLocator) (p : Placement) → (is_held e.address p.slots ≡ false → lowest (is_free listed) 0 p.slots ≢ None) →
      is_held e.address (place_other time listed e p).slots ≡ true
  entry_holds e p u =
      cond_all (λ (q : Placement). is_held e.address q.slots ≡ true) (is_held e.address p.slots) p (place time listed e p) (λ h. h)
      (λ h. place_holds e p (lowest (is_free listed) 0 p.slots) refl (u h))

  pub all_held : (x : Address) (es : List ListedLocator) (p : Placement) → is_listed x listed ≡ true → Rooms es p → is_listed x es ≡ true →
      is_held x (place_all time listed es p).slots ≡ true
  unfolding Rooms
  all_held x [] p l r q = cc
  all_held x (e ∷ es) p l r q = go (all_held x es (place_other time listed e p) l r.1) (same_address x e.address) refl q
    where
      go : (is_listed x es ≡ true → is_held x (place_all time listed es (place_other time listed e p)).slots ≡ true) → (b : Bool) → same_address x e.address ≡ b →
          (b || is_listed x es) ≡ true → is_held x (place_all time listed es (place_other time listed e p)).slots ≡ true
      go ih true u q = all_keep_held x es (place_other time listed e p) l (rw (same_equal x e.address u) (entry_holds e p r.0))
      go ih false u q = ih q

-- each entry of a set is listed by it
pub each_listed : (es : List ListedLocator) → All (λ e. is_listed e.address es ≡ true) es
unfolding All
each_listed [] = tt
each_listed (e ∷ es) = (
  rw (same_self e.address),
  all_imply (λ f. is_listed f.address es ≡ true) (λ f. is_listed f.address (e ∷ es) ≡ true)
      (λ f p. or_true (same_address f.address e.address) (is_listed f.address es) p) es (each_listed es),
)
