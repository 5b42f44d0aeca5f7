-- The new checks: what they make of the status of an address; their nonces are apart from each other and from those that are outstanding. Assumes nothing.
use mathlib.Core.Path.{◌≡◌, refl, ◌∙◌, sym, ap}
use mathlib.Core.Bool.{Bool, true, false, cond, ◌&&◌}
use mathlib.Core.List.{List, [], ◌∷◌}
use Prim.Native.Nat.{ℕ, ◌+◌, ◌≤◌, ◌<◌, zero, suc}
use lib.Dec.{eqb}
use lib.ListN.{get_or, length}
use native.Mathlib.Omega.{arith}
use Rattle.boolean.proofs.Laws.{eqb_turned, and_true_left, and_true_right, or_false_left, or_false_right}
use Rattle.std.specs.List.{list_any}
use Rattle.address.proofs.Equal.{same_equal}
use Rattle.address.specs.Rules.{same_address}
use Rattle.address.specs.declared.Address.{Address}
use Rattle.locator.specs.declared.ListedLocator.{ListedLocator}
use Rattle.slot.proofs.Settled.{Clear, Lacks, clear_turned}
use Rattle.slot.specs.Clashes.{same_nonce, clash_held, clash}
use Rattle.slot.specs.Found.{is_deprecated, holds_held, holds, status_held, or_else, status_in, found_as, is_nonce, held_as, status_of}
use Rattle.slot.specs.declared.Locator.{Locator}
use Rattle.slot.specs.declared.Slot.{Slot}
use Rattle.slot.specs.declared.Status.{Status}
use Rattle.slot.specs.declared.Status.TheVariants.{Unverified, Active, Deprecated}
use Rattle.slots.proofs.Each.{All, Pairs, none_all, all_both}
use Rattle.slots.specs.Rules.{is_outstanding}
use Rattle.readdress.specs.Checks.{awaits, check_count, checked_by, with_check, checked, twice, refusal10, awaits_held, check_for}
use Rattle.readdress.specs.Steps.{is_listed}
use Rattle.readdress.proofs.Live.{live}
use Rattle.std.specs.Prelude.{None, Option, Some, option_map}

-- ---- the status of an address
-- it is UNVERIFIED with the check that the address gets, or else as it was
module _ (x : Address) (listed : List ListedLocator) (time next : ℕ) (nonces : List ℕ) where
  held_status : (k : ℕ) (h : Option Locator) (b : Bool) (o o' : Option Status) (t : Option ℕ) → o' ≡ or_else (option_map (checked_by time next nonces) t) o →
      or_else (status_held x (cond b (with_check time next nonces k (record { holding = h })) (record { holding = h })).holding) o'
      ≡ or_else (option_map (checked_by time next nonces) (cond (holds_held x h) (cond b (Some k) None) t)) (or_else (status_held x h) o)
  held_status k None true o o' t q = q
  held_status k None false o o' t q = q
  held_status k (Some l) true o o' t q = go (same_address x l.address)
    where
      go : (c : Bool) → or_else (cond c (Some (checked_by time next nonces k)) None) o'
          ≡ or_else (option_map (checked_by time next nonces) (cond c (Some k) t)) (or_else (cond c (Some l.status) None) o)
      go true = refl
      go false = q
  held_status k (Some l) false o o' t q = go (same_address x l.address)
    where
      go : (c : Bool) → or_else (cond c (Some l.status) None) o'
          ≡ or_else (option_map (checked_by time next nonces) (cond c None t)) (or_else (cond c (Some l.status) None) o)
      go true = refl
      go false = q

  pub checked_status : (k : ℕ) (ss : List Slot) →
      status_in x (checked listed time next nonces k ss) ≡ or_else (option_map (checked_by time next nonces) (check_for x listed k ss)) (status_in x ss)
  unfolding checked status_in check_for
  checked_status k [] = refl
  checked_status k (s ∷ ss) = go (awaits listed s) (checked_status k ss) (checked_status (k + 1) ss)
    where
      go : (b : Bool) → status_in x (checked listed time next nonces k ss) ≡ or_else (option_map (checked_by time next nonces) (check_for x listed k ss)) (status_in x ss) →
          status_in x (checked listed time next nonces (k + 1) ss) ≡ or_else (option_map (checked_by time next nonces) (check_for x listed (k + 1) ss)) (status_in x ss) →
          status_in x (cond b (with_check time next nonces k s ∷ checked listed time next nonces (k + 1) ss) (s ∷ checked listed time next nonces k ss))
          ≡ or_else (option_map (checked_by time next nonces) (cond (holds x s) (cond b (Some k) None) (check_for x listed (cond b (k + 1) k) ss)))
          (or_else (status_held x s.holding) (status_in x ss))
      go true same more = held_status k s.holding true (status_in x ss) (status_in x (checked listed time next nonces (k + 1) ss)) (check_for x listed (k + 1) ss) more
      go false same more = held_status k s.holding false (status_in x ss) (status_in x (checked listed time next nonces k ss)) (check_for x listed k ss) same

module _ (x : Address) (listed : List ListedLocator) where
  -- the first slot that holds an address decides its status and whether it gets a check
  data First (k : ℕ) (ss : List Slot) : Type 0 where
    nowhere : status_in x ss ≡ None → check_for x listed k ss ≡ None → First k ss
    first : (l : Locator) (j : ℕ) → x ≡ l.address → status_in x ss ≡ Some l.status →
        check_for x listed k ss ≡ cond (awaits_held listed (Some l)) (Some j) None → First k ss

  first_in : (k : ℕ) (ss : List Slot) → First k ss
  unfolding check_for status_in
  first_in k [] = nowhere refl refl
  first_in k (s ∷ ss) = held s.holding refl (first_in (cond (awaits listed s) (k + 1) k) ss)
    where
      passed : status_held x s.holding ≡ None → holds x s ≡ false → First (cond (awaits listed s) (k + 1) k) ss → First k (s ∷ ss)
      passed u h (nowhere p q) = nowhere (rw u p) (rw h q)
      passed u h (first l j e p q) = first l j e (rw u p) (rw h q)

      here : (l : Locator) (b : Bool) → s.holding ≡ Some l → same_address x l.address ≡ b → First (cond (awaits listed s) (k + 1) k) ss → First k (s ∷ ss)
      here l true e same rest = first l k (same_equal x l.address same) (rw (e, same)) (rw (e, same))
      here l false e same rest = passed (rw (e, same)) (rw (e, same)) rest

      held : (h : Option Locator) → s.holding ≡ h → First (cond (awaits listed s) (k + 1) k) ss → First k (s ∷ ss)
      held None e rest = passed (rw e) (rw e) rest
      held (Some l) e rest = here l (same_address x l.address) e refl rest

  -- what gets a check was DEPRECATED, and is listed
  pub record Awaited (ss : List Slot) : Type 0 where
    pub deprecated : status_in x ss ≡ Some Deprecated
    pub is_listed_lem : is_listed x listed ≡ true

  deprecated_is : (t : Status) → is_deprecated t ≡ true → t ≡ Deprecated
  deprecated_is (Unverified c) q = cc
  deprecated_is Active q = cc
  deprecated_is Deprecated q = refl

  pub check_awaited : (k j : ℕ) (ss : List Slot) → check_for x listed k ss ≡ Some j → Awaited ss
  check_awaited k j ss p = go (first_in k ss)
    where
      given : (b : Bool) (i : ℕ) → cond b (Some i) None ≡ Some j → b ≡ true
      given true i q = refl
      given false i q = cc

      go : First k ss → Awaited ss
      go (nowhere u q) = let z : ◌≡◌ {A = ℕ} 0 1 = cc in absurd (omega arith)
      go (first l i e u q) =
          let both = given (awaits_held listed (Some l)) i (sym q ∙ p) in
          record {
            deprecated = u ∙ ap Some (deprecated_is l.status (and_true_left (is_deprecated l.status) (is_listed l.address listed) both));
            is_listed_lem = rw e (and_true_right (is_deprecated l.status) (is_listed l.address listed) both);
          }

  -- a listed address that gets none was not DEPRECATED
  pub check_none : (k : ℕ) (ss : List Slot) → is_listed x listed ≡ true → check_for x listed k ss ≡ None → live (status_in x ss) ≡ status_in x ss
  check_none k ss l p = go (first_in k ss)
    where
      not_given : (b : Bool) (i : ℕ) → cond b (Some i) None ≡ None → b ≡ false
      not_given true i q = cc
      not_given false i q = refl

      status : (t : Status) → (is_deprecated t && true) ≡ false → live (Some t) ≡ Some t
      status (Unverified c) q = refl
      status Active q = refl
      status Deprecated q = cc

      go : First k ss → live (status_in x ss) ≡ status_in x ss
      go (nowhere u q) = rw u
      go (first m i e u q) = rw u (status m.status (rw (← e, l) at (not_given (awaits_held listed (Some m)) i (sym q ∙ p))))

-- ---- how many
module _ (listed : List ListedLocator) (time next : ℕ) (nonces : List ℕ) where
  pub checked_length : (k : ℕ) (ss : List Slot) → length (checked listed time next nonces k ss) ≡ length ss
  unfolding checked
  checked_length k [] = refl
  checked_length k (s ∷ ss) = go (awaits listed s) (checked_length k ss) (checked_length (k + 1) ss)
    where
      go : (b : Bool) → length (checked listed time next nonces k ss) ≡ length ss → length (checked listed time next nonces (k + 1) ss) ≡ length ss →
          length (cond b (with_check time next nonces k s ∷ checked listed time next nonces (k + 1) ss) (s ∷ checked listed time next nonces k ss)) ≡ suc (length ss)
      go true p q = rw q
      go false p q = rw p

pub count_most : (listed : List ListedLocator) (ss : List Slot) → check_count listed ss ≤ length ss
unfolding check_count
count_most listed [] = omega arith
count_most listed (s ∷ ss) = go (awaits listed s) (count_most listed ss)
  where
    go : (b : Bool) → check_count listed ss ≤ length ss → cond b (1 + check_count listed ss) (check_count listed ss) ≤ suc (length ss)
    go true p = omega arith
    go false p = omega arith

-- offered nonces that are all different: those of checks i and j
differ_from : (n : ℕ) (ns : List ℕ) (j : ℕ) → list_any (eqb n) ns ≡ false → j < length ns → eqb n (get_or ns j 0) ≡ false
differ_from n [] j p h = absurd (omega arith)
differ_from n (m ∷ ns) zero p h = or_false_left (eqb n m) (list_any (eqb n) ns) p
differ_from n (m ∷ ns) (suc j) p h = differ_from n ns j (or_false_right (eqb n m) (list_any (eqb n) ns) p) (omega arith)

differ : (ns : List ℕ) (i j : ℕ) → twice ns ≡ false → i < j → j < length ns → eqb (get_or ns i 0) (get_or ns j 0) ≡ false
differ [] i j p h l = absurd (omega arith)
differ (n ∷ ns) i zero p h l = absurd (omega arith)
differ (n ∷ ns) zero (suc j) p h l = differ_from n ns j (or_false_left (list_any (eqb n) ns) (twice ns) p) (omega arith)
differ (n ∷ ns) (suc i) (suc j) p h l = differ ns i j (or_false_right (list_any (eqb n) ns) (twice ns) p) (omega arith) (omega arith)

-- an offered nonce is not outstanding
lacks_offered : (ss : List Slot) (ns : List ℕ) (j : ℕ) → list_any (is_outstanding ss) ns ≡ false → j < length ns → All (Lacks (get_or ns j 0)) ss
lacks_offered ss [] j p h = absurd (omega arith)
lacks_offered ss (n ∷ ns) zero p h = none_all (held_as (is_nonce n)) ss (or_false_left (is_outstanding ss n) (list_any (is_outstanding ss) ns) p)
lacks_offered ss (n ∷ ns) (suc j) p h = lacks_offered ss ns j (or_false_right (is_outstanding ss n) (list_any (is_outstanding ss) ns) p) (omega arith)

-- the nonces that refusal 10 lets pass, as facts about some slots
pub record Offered (nonces : List ℕ) (ss : List Slot) : Type 0 where
  pub apart : (i j : ℕ) → i < j → j < length nonces → eqb (get_or nonces i 0) (get_or nonces j 0) ≡ false
  pub fresh : (j : ℕ) → j < length nonces → All (Lacks (get_or nonces j 0)) ss

pub offered : (nonces : List ℕ) (ss : List Slot) → refusal10 nonces ss ≡ false → Offered nonces ss
offered nonces ss p = record {
  apart = λ i j. differ nonces i j (or_false_left (twice nonces) (list_any (is_outstanding ss) nonces) p);
  fresh = λ j. lacks_offered ss nonces j (or_false_right (twice nonces) (list_any (is_outstanding ss) nonces) p);
}

-- ---- slots with new checks do not clash
module _ (time next : ℕ) (nonces : List ℕ) where
  nonce_clear : (s : Status) (k : ℕ) → is_nonce (get_or nonces k 0) s ≡ false → same_nonce (checked_by time next nonces k) s ≡ false
  nonce_clear (Unverified c) k p = p
  nonce_clear Active k p = refl
  nonce_clear Deprecated k p = refl

  -- a slot with a check does not clash with one that has not its nonce
  check_clear : (h s : Slot) (k : ℕ) → Clear s h → Lacks (get_or nonces k 0) h → Clear (with_check time next nonces k s) h
  unfolding clash
  check_clear h s k p q = go h.holding s.holding p q
    where
      go : (h s : Option Locator) → clash_held s h ≡ false → found_as (is_nonce (get_or nonces k 0)) (status_of h) ≡ false →
          clash_held (with_check time next nonces k (record { holding = s })).holding h ≡ false
      go h None p q = refl
      go None (Some m) p q = refl
      go (Some l) (Some m) p q =
          rw (or_false_left (same_address m.address l.address) (same_nonce m.status l.status) p, nonce_clear l.status k q)

  -- a slot with check k has no other check's nonce
  other_nonce : (s : Slot) (k j : ℕ) → eqb (get_or nonces j 0) (get_or nonces k 0) ≡ false → Lacks (get_or nonces j 0) (with_check time next nonces k s)
  other_nonce s k j p = go s.holding
    where
      go : (h : Option Locator) → Lacks (get_or nonces j 0) (with_check time next nonces k (record { holding = h }))
      go None = refl
      go (Some l) = p

  module _ (listed : List ListedLocator) where
    -- a slot stays apart from those that get checks, whose nonces it has not
    rest_clear : (h : Slot) (k : ℕ) (ss : List Slot) → All (Clear h) ss → ((j : ℕ) → k ≤ j → j < k + check_count listed ss → Lacks (get_or nonces j 0) h) →
        All (Clear h) (checked listed time next nonces k ss)
    unfolding checked check_count All
    rest_clear h k [] p q = tt
    rest_clear h k (s ∷ ss) p q = go (awaits listed s) refl (λ r. rest_clear h k ss p.1 r) (λ r. rest_clear h (k + 1) ss p.1 r)
      where
        go : (b : Bool) → awaits listed s ≡ b →
            (((j : ℕ) → k ≤ j → j < k + check_count listed ss → Lacks (get_or nonces j 0) h) → All (Clear h) (checked listed time next nonces k ss)) →
            (((j : ℕ) → k + 1 ≤ j → j < k + 1 + check_count listed ss → Lacks (get_or nonces j 0) h) → All (Clear h) (checked listed time next nonces (k + 1) ss)) →
            All (Clear h) (cond b (with_check time next nonces k s ∷ checked listed time next nonces (k + 1) ss) (s ∷ checked listed time next nonces k ss))
        go true e same more =
            let counted : check_count listed (s ∷ ss) ≡ 1 + check_count listed ss = rw e in
            (clear_turned (with_check time next nonces k s) h (check_clear h s k (clear_turned h s p.0) (q k (omega arith) (omega arith))), more (λ j l m. q j (omega arith) (omega arith)))
        go false e same more =
            let counted : check_count listed (s ∷ ss) ≡ check_count listed ss = rw e in (p.0, same (λ j l m. q j l (omega arith)))

    pub checked_apart : (k : ℕ) (ss : List Slot) → Pairs Clear ss → Offered nonces ss → k + check_count listed ss ≤ length nonces →
        Pairs Clear (checked listed time next nonces k ss)
    unfolding checked check_count All Pairs
    checked_apart k [] p o h = tt
    checked_apart k (s ∷ ss) p o h =
        go (awaits listed s) refl (λ r. checked_apart k ss p.1 tail r) (λ r. checked_apart (k + 1) ss p.1 tail r)
      where
        tail : Offered nonces ss
        tail = record { apart = o.apart; fresh = λ j l. (o.fresh j l).1 }

        go : (b : Bool) → awaits listed s ≡ b → (k + check_count listed ss ≤ length nonces → Pairs Clear (checked listed time next nonces k ss)) →
            (k + 1 + check_count listed ss ≤ length nonces → Pairs Clear (checked listed time next nonces (k + 1) ss)) →
            Pairs Clear (cond b (with_check time next nonces k s ∷ checked listed time next nonces (k + 1) ss) (s ∷ checked listed time next nonces k ss))
        go true e same more =
            let counted : check_count listed (s ∷ ss) ≡ 1 + check_count listed ss = rw e in (
              rest_clear (with_check time next nonces k s) (k + 1) ss
                  (all_both (Clear s) (Lacks (get_or nonces k 0)) (Clear (with_check time next nonces k s)) (λ t u v. check_clear t s k u v) ss p.0
                  (tail.fresh k (omega arith)))
                  (λ j l m. other_nonce s k j (eqb_turned (get_or nonces k 0) (get_or nonces j 0) (o.apart k j (omega arith) (omega arith)))),
              more (omega arith),
            )
        go false e same more =
            let counted : check_count listed (s ∷ ss) ≡ check_count listed ss = rw e in
            (rest_clear s k ss p.0 (λ j l m. (o.fresh j (omega arith)).0), same (omega arith))
