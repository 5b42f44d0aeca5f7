-- What a Move and a Reply as a whole do to the status of one address: demand 3 of a message, as far as the slots go. Assumes nothing.
use mathlib.Core.Path.{◌≡◌, refl, ◌∙◌, sym, ap}
use mathlib.Core.Bool.{Bool, true, false, cond, ◌&&◌, ◌||◌, not}
use mathlib.Core.List.{List}
use lib.ListN.{get_or}
use mathlib.Core.Logic.{◌↔◌}
use borrow.Author.Tests.{eqb-true, eq-eqb}
use Prim.Native.Nat.{ℕ}
use Rattle.boolean.proofs.Laws.{apart, and_true}
use Rattle.address.specs.declared.Address.{Address}
use Rattle.packet.specs.declared.EchoResponse.{EchoResponse}
use Rattle.packet.specs.declared.EchoResponse.TheVariants.{Absent, Nonce, OtherLength}
use Rattle.locator.specs.declared.ListedLocator.{ListedLocator}
use Rattle.slot.specs.Found.{or_else, status_in, is_active, found_as}
use Rattle.slot.specs.declared.Check.{Check}
use Rattle.slot.specs.declared.Slot.{Slot}
use Rattle.slot.specs.declared.Status.{Status}
use Rattle.slot.specs.declared.Status.TheVariants.{Unverified, Active, Deprecated}
use Rattle.readdress.specs.Checks.{checked_by, check_for, nonce_taken}
use Rattle.readdress.specs.Echoes.{answers, verify_all}
use Rattle.readdress.specs.Moves.{placed, new_slots}
use Rattle.readdress.specs.Steps.{is_listed}
use Rattle.readdress.proofs.Live.{live, is_dead, nonce_held, active_live, nonce_live, live_some}
use Rattle.readdress.proofs.Settled.{settled_status, verified_status}
use Rattle.readdress.proofs.Placed.{placed_status, unlisted_none}
use Rattle.readdress.proofs.Checked.{checked_status, check_awaited}
use Rattle.std.specs.Prelude.{None, Option, Some, option_map}

-- an echo response answers a check exactly where it is the check's nonce
pub answers_exactly : (e : EchoResponse) (k : Check) → (answers e (Unverified k) ≡ true) ↔ (e ≡ Nonce k.nonce)
answers_exactly e k = (there e, back)
  where
    there : (e : EchoResponse) → answers e (Unverified k) ≡ true → e ≡ Nonce k.nonce
    there Absent p = apart (sym p)
    there (Nonce n) p = ap Nonce (eqb-true n k.nonce p)
    there OtherLength p = apart (sym p)

    back : e ≡ Nonce k.nonce → answers e (Unverified k) ≡ true
    back p = rw p (eq-eqb k.nonce k.nonce refl)

-- ---- a Move as a whole, and a Reply
active_settled : (in_set differs : Bool) (e : EchoResponse) (k : Check) →
    found_as is_active (option_map (settled_status in_set differs e) (Some (Unverified k))) ≡ (answers e (Unverified k) && not (differs || not in_set))
active_settled in_set differs e k = go in_set differs (answers e (Unverified k))
  where
    go : (in_set differs b : Bool) → found_as is_active (Some (cond in_set (cond differs Deprecated (cond b Active (Unverified k))) Deprecated)) ≡ (b && not (differs || not in_set))
    go true true true = refl
    go true true false = refl
    go true false true = refl
    go true false false = refl
    go false true true = refl
    go false true false = refl
    go false false true = refl
    go false false false = refl

dead_settled : (in_set differs : Bool) (e : EchoResponse) (o : Option Status) → is_dead o ≡ true → found_as is_active (option_map (settled_status in_set differs e) o) ≡ false
dead_settled in_set differs e None p = refl
dead_settled in_set differs e (Some (Unverified k)) p = cc
dead_settled in_set differs e (Some Active) p = cc
dead_settled true true e (Some Deprecated) p = refl
dead_settled true false e (Some Deprecated) p = refl
dead_settled false differs e (Some Deprecated) p = refl

nonce_settled : (in_set differs : Bool) (e : EchoResponse) (o : Option Status) (j : ℕ) →
    nonce_held (option_map (settled_status in_set differs e) o) ≡ Some j → nonce_held o ≡ Some j
nonce_settled in_set differs e None j p = p
nonce_settled in_set differs e (Some s) j p = go in_set differs (answers e s) p
  where
    go : (in_set differs b : Bool) → nonce_held (Some (cond in_set (cond differs Deprecated (cond b Active s)) Deprecated)) ≡ Some j → nonce_held (Some s) ≡ Some j
    go true true b p = cc
    go true false true p = cc
    go true false false p = p
    go false differs b p = cc

-- a check was given to what was DEPRECATED, and makes nothing ACTIVE; the nonce is then its own
given_active : (time next : ℕ) (nonces : List ℕ) (c : Option ℕ) (o : Option Status) → ((j : ℕ) → c ≡ Some j → o ≡ Some Deprecated) →
    found_as is_active (or_else (option_map (checked_by time next nonces) c) o) ≡ found_as is_active o
given_active time next nonces None o h = refl
given_active time next nonces (Some j) o h = rw (h j refl)

given_nonce : (time next : ℕ) (nonces : List ℕ) (c : Option ℕ) (o : Option Status) →
    nonce_held (or_else (option_map (checked_by time next nonces) c) o) ≡ or_else (option_map (λ (k : ℕ). get_or nonces k 0) c) (nonce_held o)
given_nonce time next nonces None o = refl
given_nonce time next nonces (Some j) o = refl

given_kept : (time next : ℕ) (nonces : List ℕ) (c : Option ℕ) (o : Option Status) (s : Status) → ((j : ℕ) → c ≡ Some j → o ≡ Some Deprecated) → live o ≡ Some s →
    or_else (option_map (checked_by time next nonces) c) o ≡ Some s
given_kept time next nonces None o s h p = live_some o s p
given_kept time next nonces (Some j) o s h p = let z : None ≡ Some s = rw (h j refl) at p in cc

module _ (x : Address) (time : ℕ) (differs : Bool) (e : EchoResponse) (listed : List ListedLocator) (p : Option ℕ) (next : ℕ) (nonces : List ℕ) (ss : List Slot) where
  -- the slots after step 5, the check that the address gets, and its status after the Move
  abbrev five : List Slot
  five = (placed time differs e listed p ss).slots

  abbrev check : Option ℕ
  check = check_for x listed 0 five

  abbrev after : Option Status
  after = status_in x (new_slots listed time next nonces (placed time differs e listed p ss))

  after_is : after ≡ or_else (option_map (checked_by time next nonces) check) (status_in x five)
  after_is = checked_status x listed time next nonces 0 five

  was_deprecated : (j : ℕ) → check ≡ Some j → status_in x five ≡ Some Deprecated
  was_deprecated j q = (check_awaited x listed 0 j five q).deprecated

  active_after : found_as is_active after ≡ found_as is_active (option_map (settled_status (is_listed x listed) differs e) (status_in x ss))
  active_after =
      ap (found_as is_active) after_is
      ∙ given_active time next nonces check (status_in x five) was_deprecated
      ∙ active_live (status_in x five)
      ∙ ap (found_as is_active) (placed_status x time differs e listed p ss)
      ∙ sym (active_live (option_map (settled_status (is_listed x listed) differs e) (status_in x ss)))

  -- what is ACTIVE or UNVERIFIED after step 4 stays as it is: "ACTIVE stays; UNVERIFIED keeps its check"
  pub move_keeps : (s : Status) → live (option_map (settled_status (is_listed x listed) differs e) (status_in x ss)) ≡ Some s → after ≡ Some s
  move_keeps s q = after_is ∙ given_kept time next nonces check (status_in x five) s was_deprecated (placed_status x time differs e listed p ss ∙ q)

  pub move_inactive : live (option_map (settled_status (is_listed x listed) differs e) (status_in x ss)) ≡ None → found_as is_active after ≡ false
  move_inactive q = active_after ∙ active_live (option_map (settled_status (is_listed x listed) differs e) (status_in x ss)) ∙ rw q

  -- an address that the set lacks is neither ACTIVE nor UNVERIFIED
  pub move_retires : is_listed x listed ≡ false → is_dead after ≡ true
  move_retires l =
      ap is_dead after_is
      ∙ go check (λ j q. (check_awaited x listed 0 j five q).is_listed_lem) (placed_status x time differs e listed p ss ∙ rw l (unlisted_none differs e (status_in x ss)))
    where
      dead : (o : Option Status) → live o ≡ None → is_dead o ≡ true
      dead None q = refl
      dead (Some (Unverified k)) q = cc
      dead (Some Active) q = cc
      dead (Some Deprecated) q = refl

      go : (c : Option ℕ) → ((j : ℕ) → c ≡ Some j → is_listed x listed ≡ true) → live (status_in x five) ≡ None →
          is_dead (or_else (option_map (checked_by time next nonces) c) (status_in x five)) ≡ true
      go None h q = dead (status_in x five) q
      go (Some j) h q = apart (sym (h j refl) ∙ l)

  -- an address that is UNVERIFIED becomes ACTIVE exactly where the Move echoes its nonce and does not retire it
  pub move_verifies : (k : Check) → status_in x ss ≡ Some (Unverified k) → found_as is_active after ≡ (answers e (Unverified k) && not (differs || not (is_listed x listed)))
  move_verifies k q = active_after ∙ rw q (active_settled (is_listed x listed) differs e k)

  -- an address that is DEPRECATED or not held does not become ACTIVE
  pub move_revives_none : is_dead (status_in x ss) ≡ true → found_as is_active after ≡ false
  move_revives_none q = active_after ∙ dead_settled (is_listed x listed) differs e (status_in x ss) q

  -- its nonce is the one that its new check took, or else the one that it had
  pub move_nonce : nonce_held after ≡ or_else (nonce_taken x listed nonces five) (nonce_held (status_in x five))
  move_nonce = ap nonce_held after_is ∙ given_nonce time next nonces check (status_in x five)

  pub move_keeps_nonce : (j : ℕ) → nonce_held (status_in x five) ≡ Some j → nonce_held (status_in x ss) ≡ Some j
  move_keeps_nonce j q =
      nonce_settled (is_listed x listed) differs e (status_in x ss) j
      (nonce_live (option_map (settled_status (is_listed x listed) differs e) (status_in x ss))
      ∙ sym (ap nonce_held (placed_status x time differs e listed p ss))
      ∙ sym (nonce_live (status_in x five))
      ∙ q)

-- a Reply goes by step 1 alone
module _ (x : Address) (e : EchoResponse) (ss : List Slot) where
  pub reply_verifies : (k : Check) → status_in x ss ≡ Some (Unverified k) → found_as is_active (status_in x (verify_all e ss)) ≡ answers e (Unverified k)
  reply_verifies k q = ap (found_as is_active) (verified_status x e ss) ∙ rw q (active_settled true false e k ∙ and_true (answers e (Unverified k)))

  pub reply_revives_none : is_dead (status_in x ss) ≡ true → found_as is_active (status_in x (verify_all e ss)) ≡ false
  reply_revives_none q = ap (found_as is_active) (verified_status x e ss) ∙ dead_settled true false e (status_in x ss) q

  -- a nonce that it leaves is the one that was there
  pub reply_keeps_nonce : (j : ℕ) → nonce_held (status_in x (verify_all e ss)) ≡ Some j → nonce_held (status_in x ss) ≡ Some j
  reply_keeps_nonce j q = nonce_settled true false e (status_in x ss) j (sym (ap nonce_held (verified_status x e ss)) ∙ q)
