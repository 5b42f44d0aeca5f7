-- The status of an address under a change of every locator, and whether a slot holds it. Assumes nothing.
use mathlib.Core.Path.{◌≡◌, refl}
use mathlib.Core.Bool.{Bool, true, false, cond, ◌||◌}
use mathlib.Core.List.{List, [], ◌∷◌, map}
use Rattle.boolean.proofs.Laws.{or_false_left, or_false_right}
use Rattle.std.specs.List.{list_any}
use Rattle.address.specs.declared.Address.{Address}
use Rattle.address.specs.Rules.{same_address}
use Rattle.address.proofs.Equal.{same_equal}
use Rattle.slot.specs.declared.Status.{Status}
use Rattle.slot.specs.declared.Locator.{Locator}
use Rattle.slot.specs.declared.Slot.{Slot}
use Rattle.slot.specs.Found.{on_held, on_locator, holds_held, holds, status_held, or_else, status_in}
use Rattle.std.specs.Prelude.{option_map, None, Option, Some}

-- a change that keeps each address and turns each status by a rule of the address
module _ (change : Locator → Locator) (turn : Address → Status → Status)
    (address : (l : Locator) → (change l).address ≡ l.address) (status : (l : Locator) → (change l).status ≡ turn l.address l.status) where
  status_held_lem : (x : Address) (h : Option Locator) → status_held x (on_held change h) ≡ option_map (turn x) (status_held x h)
  status_held_lem x None = refl
  status_held_lem x (Some l) = rw (address l, status l) (go (same_address x l.address) refl)
    where
      go : (b : Bool) → same_address x l.address ≡ b →
          cond b (Some (turn l.address l.status)) None ≡ option_map (turn x) (cond b (Some l.status) None)
      go true p = rw (same_equal x l.address p)
      go false p = refl

  either_map : (f : Status → Status) (o p : Option Status) → or_else (option_map f o) (option_map f p) ≡ option_map f (or_else o p)
  either_map f None p = refl
  either_map f (Some s) p = refl

  pub status_map : (x : Address) (ss : List Slot) → status_in x (map (on_locator change) ss) ≡ option_map (turn x) (status_in x ss)
  unfolding status_in
  status_map x [] = refl
  status_map x (s ∷ ss) = rw (status_held_lem x s.holding, status_map x ss) (either_map (turn x) (status_held x s.holding) (status_in x ss))

-- an address that no slot holds has no status
not_held : (x : Address) (h : Option Locator) → holds_held x h ≡ false → status_held x h ≡ None
not_held x None p = refl
not_held x (Some l) p = rw p

pub status_passed : (x : Address) (s : Slot) (ss : List Slot) → holds x s ≡ false → status_in x (s ∷ ss) ≡ status_in x ss
unfolding status_in
status_passed x s ss p = rw (not_held x s.holding p)

pub unheld_none : (x : Address) (ss : List Slot) → list_any (holds x) ss ≡ false → status_in x ss ≡ None
unfolding status_in
unheld_none x [] p = refl
unheld_none x (s ∷ ss) p =
    rw (not_held x s.holding (or_false_left (holds x s) (list_any (holds x) ss) p))
    (unheld_none x ss (or_false_right (holds x s) (list_any (holds x) ss) p))

-- an address that a slot holds has one
abbrev pub is_found : Option Status → Bool
is_found None = false
is_found (Some s) = true

pub held_found : (x : Address) (ss : List Slot) → list_any (holds x) ss ≡ true → is_found (status_in x ss) ≡ true
unfolding status_in
held_found x [] p = p
held_found x (s ∷ ss) p = go s.holding (held_found x ss) p
  where
    here : (l : Locator) (b : Bool) → (list_any (holds x) ss ≡ true → is_found (status_in x ss) ≡ true) → (b || list_any (holds x) ss) ≡ true →
        is_found (or_else (cond b (Some l.status) None) (status_in x ss)) ≡ true
    here l true rest q = refl
    here l false rest q = rest q

    go : (h : Option Locator) → (list_any (holds x) ss ≡ true → is_found (status_in x ss) ≡ true) → (holds_held x h || list_any (holds x) ss) ≡ true →
        is_found (or_else (status_held x h) (status_in x ss)) ≡ true
    go None rest q = rest q
    go (Some l) rest q = here l (same_address x l.address) rest q
