-- Step 5: what it makes of the status of an address, and what it keeps of slots that do not clash. Assumes nothing.
use mathlib.Core.Path.{◌≡◌, refl, ◌∙◌, sym, ap}
use mathlib.Core.Bool.{Bool, true, false, cond, ◌&&◌, not}
use mathlib.Core.List.{List, [], ◌∷◌, map}
use Prim.Native.Nat.{ℕ, zero, suc}
use lib.ListN.{set, length, length-set}
use Rattle.boolean.proofs.Laws.{cond_all, and_true_right, apart}
use Rattle.address.proofs.Equal.{same_equal}
use Rattle.address.specs.Rules.{same_address}
use Rattle.address.specs.declared.Address.{Address}
use Rattle.packet.specs.declared.EchoResponse.{EchoResponse}
use Rattle.locator.specs.declared.ListedLocator.{ListedLocator}
use Rattle.slot.proofs.Settled.{Clear, Lacks, clear_turned}
use Rattle.slot.specs.Clashes.{clash_held, clash}
use Rattle.slot.specs.Found.{on_held, on_locator, is_deprecated, holds_held, holds, status_held, or_else, status_in, slot_at}
use Rattle.slot.specs.declared.Locator.{Locator}
use Rattle.slot.specs.declared.Slot.{Slot}
use Rattle.slot.specs.declared.Status.{Status}
use Rattle.slot.specs.declared.Status.TheVariants.{Deprecated}
use Rattle.slots.proofs.Each.{All, Pairs, none_all, all_imply, all_set, pairs_set}
use Rattle.slots.proofs.Statuses.{status_passed, unheld_none}
use Rattle.path.proofs.Lowest.{lowest_fit}
use Rattle.path.specs.Choices.{lowest}
use Rattle.readdress.specs.Echoes.{verify_all}
use Rattle.readdress.specs.Moves.{settled, placed}
use Rattle.readdress.specs.Steps.{deprecate, rebind, renew_all, is_listed, retire, retire_all, free_held, is_free, entered, place_at, place, is_held, place_other, place_all}
use Rattle.readdress.specs.declared.Placement.{Placement}
use Rattle.readdress.proofs.Live.{live}
use Rattle.readdress.proofs.Settled.{settled_status, settled_status_lem}
use Rattle.std.specs.Prelude.{option_map, None, Option, Some}

-- ---- placing in general
-- a slot that takes an address without a check does not clash with one that does not hold the address
pub entered_clear : (time : ℕ) (e : ListedLocator) (s : Slot) → holds e.address s ≡ false → Clear (entered time e) s
unfolding clash
entered_clear time e s p = go s.holding p
  where
    go : (h : Option Locator) → holds_held e.address h ≡ false → clash_held (entered time e).holding h ≡ false
    go None p = refl
    go (Some l) p = rw p

module _ (time : ℕ) (listed : List ListedLocator) where
  -- what holds before an entry, and holds where the entry takes the slot that was found for it, holds after the entry
  pub entry_keeps : (P : Placement → Type 0) (e : ListedLocator) (p : Placement) →
      (is_held e.address p.slots ≡ false → (n : ℕ) → lowest (is_free listed) 0 p.slots ≡ Some n → P (place_at time e (Some n) p)) → P p →
      P (place_other time listed e p)
  entry_keeps P e p keep q =
      cond_all P (is_held e.address p.slots) p (place time listed e p) (λ h. q) (λ h. go h (lowest (is_free listed) 0 p.slots) refl)
    where
      go : is_held e.address p.slots ≡ false → (c : Option ℕ) → lowest (is_free listed) 0 p.slots ≡ c → P (place_at time e c p)
      go h None r = q
      go h (Some n) r = keep h n r

  -- what each entry keeps, step 5 keeps
  pub entries_keep : (P : Placement → Type 0) →
      ((e : ListedLocator) (p : Placement) → P p → is_held e.address p.slots ≡ false → (n : ℕ) → lowest (is_free listed) 0 p.slots ≡ Some n →
      P (place_at time e (Some n) p)) → (es : List ListedLocator) (p : Placement) → P p → P (place_all time listed es p)
  entries_keep P keep [] p q = q
  entries_keep P keep (e ∷ es) p q = entries_keep P keep es (place_other time listed e p) (entry_keeps P e p (keep e p q) q)

  pub take_apart : (e : ListedLocator) (ss : List Slot) (n : ℕ) → is_held e.address ss ≡ false → Pairs Clear ss → Pairs Clear (set ss n (entered time e))
  take_apart e ss n h q =
      let away = none_all (holds e.address) ss h in
      pairs_set Clear ss n (entered time e) q
      (all_imply (λ s. holds e.address s ≡ false) (λ s. Clear s (entered time e)) (λ s h. clear_turned (entered time e) s (entered_clear time e s h)) ss away)
      (all_imply (λ s. holds e.address s ≡ false) (Clear (entered time e)) (entered_clear time e) ss away)

  pub placed_apart : (es : List ListedLocator) (p : Placement) → Pairs Clear p.slots → Pairs Clear (place_all time listed es p).slots
  placed_apart es p q = entries_keep (λ r. Pairs Clear r.slots) (λ e r s h n l. take_apart e r.slots n h s) es p q

  pub placed_length : (es : List ListedLocator) (p : Placement) (k : ℕ) → length p.slots ≡ k → length (place_all time listed es p).slots ≡ k
  placed_length es p k q = entries_keep (λ r. length r.slots ≡ k) (λ e r s h n l. length-set r.slots n (entered time e) ∙ s) es p q

  pub placed_without : (k : ℕ) (es : List ListedLocator) (p : Placement) → All (Lacks k) p.slots → All (Lacks k) (place_all time listed es p).slots
  placed_without k es p q = entries_keep (λ r. All (Lacks k) r.slots) (λ e r s h n l. all_set (Lacks k) r.slots n (entered time e) s refl) es p q

-- ---- the status of an address
-- where a listed address may take a slot, the slot does not hold an address that is listed
pub free_other : (x : Address) (listed : List ListedLocator) (s : Slot) → is_listed x listed ≡ true → is_free listed s ≡ true → holds x s ≡ false
free_other x listed s p q = held s.holding q
  where
    same : (l : Locator) (b : Bool) → same_address x l.address ≡ b → (is_deprecated l.status && not (is_listed l.address listed)) ≡ true → b ≡ false
    same l true e q =
        let r : is_listed l.address listed ≡ true = rw (← same_equal x l.address e) p in
        let u : not (is_listed l.address listed) ≡ true = and_true_right (is_deprecated l.status) (not (is_listed l.address listed)) q in
        let w : not true ≡ true = rw r at u in sym w
    same l false e q = refl

    held : (h : Option Locator) → free_held listed h ≡ true → holds_held x h ≡ false
    held None q = refl
    held (Some l) q = same l (same_address x l.address) refl q

-- an address that is listed: no slot that holds it is taken, and a slot that it takes is DEPRECATED until its check is given out
module _ (x : Address) (time : ℕ) (listed : List ListedLocator) where
  front_live : (e : ListedLocator) (o : Option Status) (b : Bool) → same_address x e.address ≡ b → (b ≡ true → live o ≡ None) →
      live (or_else (cond b (Some Deprecated) None) o) ≡ live o
  front_live e o true p h = sym (h refl)
  front_live e o false p h = refl

  set_live : (e : ListedLocator) (ss : List Slot) (n : ℕ) → holds x (slot_at n ss) ≡ false → (same_address x e.address ≡ true → live (status_in x ss) ≡ None) →
      live (status_in x (set ss n (entered time e))) ≡ live (status_in x ss)
  unfolding status_in
  set_live e [] n p h = refl
  set_live e (s ∷ ss) zero p h =
      front_live e (status_in x ss) (same_address x e.address) refl (λ q. sym (ap live (status_passed x s ss p)) ∙ h q) ∙ sym (ap live (status_passed x s ss p))
  set_live e (s ∷ ss) (suc n) p h = go (λ k. set_live e ss n p k) (status_held x s.holding) refl
    where
      go : ((same_address x e.address ≡ true → live (status_in x ss) ≡ None) → live (status_in x (set ss n (entered time e))) ≡ live (status_in x ss)) →
          (o : Option Status) → status_held x s.holding ≡ o → live (or_else o (status_in x (set ss n (entered time e)))) ≡ live (or_else o (status_in x ss))
      go ih None q = ih (λ r. rw q at (h r))
      go ih (Some t) q = refl

  placed_live : (es : List ListedLocator) (p : Placement) → is_listed x listed ≡ true →
      live (status_in x (place_all time listed es p).slots) ≡ live (status_in x p.slots)
  placed_live es p l =
      entries_keep time listed (λ q. live (status_in x q.slots) ≡ live (status_in x p.slots))
      (λ e q same h n found.
      set_live e q.slots n (free_other x listed (slot_at n q.slots) l (lowest_fit (is_free listed) q.slots n found))
      (λ s. ap live (unheld_none x q.slots (rw (same_equal x e.address s) h)))
      ∙ same)
      es p refl

  -- an address that is not listed: each slot that holds it is DEPRECATED
  abbrev Dead : Slot → Type 0
  Dead s = live (status_held x s.holding) ≡ None

  dead_live : (ss : List Slot) → All Dead ss → live (status_in x ss) ≡ None
  unfolding status_in All
  dead_live [] p = refl
  dead_live (s ∷ ss) p = go (dead_live ss p.1) (status_held x s.holding) p.0
    where
      go : live (status_in x ss) ≡ None → (o : Option Status) → live o ≡ None → live (or_else o (status_in x ss)) ≡ None
      go ih None d = ih
      go ih (Some t) d = d

  entered_dead : (e : ListedLocator) → Dead (entered time e)
  entered_dead e = go (same_address x e.address)
    where
      go : (b : Bool) → live (cond b (Some Deprecated) None) ≡ None
      go true = refl
      go false = refl

  placed_dead : (es : List ListedLocator) (p : Placement) → All Dead p.slots → All Dead (place_all time listed es p).slots
  placed_dead es p d =
      entries_keep time listed (λ q. All Dead q.slots) (λ e q s h n found. all_set Dead q.slots n (entered time e) s (entered_dead e)) es p d

  retired_dead : (ss : List Slot) → is_listed x listed ≡ false → All Dead (map (on_locator (retire listed)) ss)
  unfolding All
  retired_dead [] l = tt
  retired_dead (s ∷ ss) l = (held s.holding, retired_dead ss l)
    where
      same : (m : Locator) (b c : Bool) → same_address x m.address ≡ b → is_listed m.address listed ≡ c →
          live (status_held x (Some (cond c m (deprecate m)))) ≡ None
      same m true true p q = apart (sym q ∙ rw (same_equal x m.address p) at l)
      same m true false p q = rw p
      same m false true p q = rw p
      same m false false p q = rw p

      held : (h : Option Locator) → live (status_held x (on_held (retire listed) h)) ≡ None
      held None = refl
      held (Some m) = same m (same_address x m.address) (is_listed m.address listed) refl refl

pub unlisted_none : (differs : Bool) (e : EchoResponse) (o : Option Status) → live (option_map (settled_status false differs e) o) ≡ None
unlisted_none differs e None = refl
unlisted_none differs e (Some s) = refl

-- steps 1 to 5: what is live of an address
pub placed_status : (x : Address) (time : ℕ) (differs : Bool) (e : EchoResponse) (listed : List ListedLocator) (p : Option ℕ) (ss : List Slot) →
    live (status_in x (placed time differs e listed p ss).slots) ≡ live (option_map (settled_status (is_listed x listed) differs e) (status_in x ss))
unfolding placed settled retire_all
placed_status x time differs e listed p ss = go (is_listed x listed) refl
  where
    before : Placement
    before = record { slots = settled time differs e listed ss; preferred = p }

    go : (b : Bool) → is_listed x listed ≡ b →
        live (status_in x (place_all time listed listed before).slots) ≡ live (option_map (settled_status (is_listed x listed) differs e) (status_in x ss))
    go true l = placed_live x time listed listed before l ∙ ap live (settled_status_lem x time differs e listed ss)
    go false l =
        dead_live x time listed (place_all time listed listed before).slots
        (placed_dead x time listed listed before (retired_dead x time listed (renew_all time listed (rebind differs (verify_all e ss))) l))
        ∙ rw l (sym (unlisted_none differs e (status_in x ss)))
