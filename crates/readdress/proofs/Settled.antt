-- Steps 1 to 4: what they make of the status of an address, and what they keep of slots that do not clash. Assumes nothing.
use mathlib.Core.Path.{◌≡◌, refl, ◌∙◌}
use mathlib.Core.Bool.{Bool, true, false, cond}
use mathlib.Core.Logic.{◌⊎◌, inl, inr}
use mathlib.Core.List.{List, map}
use Prim.Native.Nat.{ℕ}
use lib.ListN.{length, length-map}
use Rattle.boolean.proofs.Laws.{cond_all}
use Rattle.address.specs.declared.Address.{Address}
use Rattle.packet.specs.declared.EchoResponse.{EchoResponse}
use Rattle.locator.specs.declared.ListedLocator.{ListedLocator}
use Rattle.slot.proofs.Settled.{Clear, Lacks, Settles, settled_clear, settled_lacks}
use Rattle.slot.specs.Found.{on_locator, status_in, is_unverified}
use Rattle.slot.specs.declared.Locator.{Locator}
use Rattle.slot.specs.declared.Slot.{Slot}
use Rattle.slot.specs.declared.Status.{Status}
use Rattle.slot.specs.declared.Status.TheVariants.{Active, Deprecated}
use Rattle.slots.proofs.Each.{All, Pairs, all_map, pairs_map}
use Rattle.slots.proofs.Statuses.{status_map}
use Rattle.readdress.specs.Echoes.{answers, verify_locator, verify_all, verify_status}
use Rattle.readdress.specs.Moves.{settled}
use Rattle.readdress.specs.Steps.{deprecate, rebind, entry_for, renew_by, renew, renew_all, is_listed, retire, retire_all}
use Rattle.std.specs.Prelude.{option_map, None, Option, Some}

-- ---- the status of an address
-- what they make of the status of an address that the set lists, or does not
abbrev pub settled_status : (in_set differs : Bool) → EchoResponse → Status → Status
settled_status in_set differs e s = cond in_set (cond differs Deprecated (verify_status e s)) Deprecated

pub verified_status : (x : Address) (e : EchoResponse) (ss : List Slot) → status_in x (verify_all e ss) ≡ option_map (verify_status e) (status_in x ss)
unfolding verify_all
verified_status x e ss = status_map (verify_locator e) (λ y. verify_status e) (λ l. refl) (λ l. refl) x ss

map_same : (o : Option Status) → o ≡ option_map (λ s. s) o
map_same None = refl
map_same (Some s) = refl

rebound_status : (x : Address) (differs : Bool) (ss : List Slot) → status_in x (rebind differs ss) ≡ option_map (λ s. cond differs Deprecated s) (status_in x ss)
unfolding rebind
rebound_status x true ss = status_map deprecate (λ y s. Deprecated) (λ l. refl) (λ l. refl) x ss
rebound_status x false ss = map_same (status_in x ss)

pub renewed_address : (time : ℕ) (o : Option ListedLocator) (l : Locator) → (renew_by time o l).address ≡ l.address
renewed_address time None l = refl
renewed_address time (Some e) l = refl

pub renewed_status : (time : ℕ) (o : Option ListedLocator) (l : Locator) → (renew_by time o l).status ≡ l.status
renewed_status time None l = refl
renewed_status time (Some e) l = refl

pub retired_address : (b : Bool) (l : Locator) → (cond b l (deprecate l)).address ≡ l.address
retired_address true l = refl
retired_address false l = refl

retired_status : (b : Bool) (l : Locator) → (cond b l (deprecate l)).status ≡ cond b l.status Deprecated
retired_status true l = refl
retired_status false l = refl

map_settled : (in_set differs : Bool) (e : EchoResponse) (o : Option Status) →
    option_map (λ s. cond in_set s Deprecated) (option_map (λ s. s) (option_map (λ s. cond differs Deprecated s) (option_map (verify_status e) o)))
    ≡ option_map (settled_status in_set differs e) o
map_settled in_set differs e None = refl
map_settled in_set differs e (Some s) = refl

pub settled_status_lem : (x : Address) (time : ℕ) (differs : Bool) (e : EchoResponse) (listed : List ListedLocator) (ss : List Slot) →
    status_in x (settled time differs e listed ss) ≡ option_map (settled_status (is_listed x listed) differs e) (status_in x ss)
unfolding settled retire_all renew_all
settled_status_lem x time differs e listed ss =
    status_map (retire listed) (λ y s. cond (is_listed y listed) s Deprecated) (λ l. retired_address (is_listed l.address listed) l)
    (λ l. retired_status (is_listed l.address listed) l) x (renew_all time listed (rebind differs (verify_all e ss)))
    ∙ rw (
      status_map (renew time listed) (λ y s. s) (λ l. renewed_address time (entry_for l.address listed) l)
          (λ l. renewed_status time (entry_for l.address listed) l) x (rebind differs (verify_all e ss)),
      rebound_status x differs (verify_all e ss),
      verified_status x e ss,
    )
    (map_settled (is_listed x listed) differs e (status_in x ss))

-- ---- slots that do not clash
-- each step keeps each address, and keeps its status or takes its check away
pub verify_settles : (e : EchoResponse) → Settles (verify_locator e)
verify_settles e = record { address = λ l. refl; status = λ l. go l.status (answers e l.status) }
  where
    go : (s : Status) (b : Bool) → (cond b Active s ≡ s) ⊎ (is_unverified (cond b Active s) ≡ false)
    go s true = inr refl
    go s false = inl refl

deprecate_settles : Settles deprecate
deprecate_settles = record { address = λ l. refl; status = λ l. inr refl }

renew_settles : (time : ℕ) (listed : List ListedLocator) → Settles (renew time listed)
renew_settles time listed = record {
  address = λ l. renewed_address time (entry_for l.address listed) l;
  status = λ l. inl (renewed_status time (entry_for l.address listed) l);
}

retire_settles : (listed : List ListedLocator) → Settles (retire listed)
retire_settles listed = record { address = λ l. retired_address (is_listed l.address listed) l; status = λ l. go l (is_listed l.address listed) }
  where
    go : (l : Locator) (b : Bool) → ((cond b l (deprecate l)).status ≡ l.status) ⊎ (is_unverified (cond b l (deprecate l)).status ≡ false)
    go l true = inl refl
    go l false = inr refl

-- step 1 alone
pub verified_length : (e : EchoResponse) (ss : List Slot) → length (verify_all e ss) ≡ length ss
unfolding verify_all
verified_length e ss = length-map ss (on_locator (verify_locator e))

pub verified_apart : (e : EchoResponse) (ss : List Slot) → Pairs Clear ss → Pairs Clear (verify_all e ss)
unfolding verify_all
verified_apart e ss p = pairs_map Clear Clear (on_locator (verify_locator e)) (settled_clear (verify_locator e) (verify_settles e)) ss p

-- what each such change keeps, steps 1 to 4 keep
pub steps_keep : (P : List Slot → Type 0) → ((change : Locator → Locator) → Settles change → (ss : List Slot) → P ss → P (map (on_locator change) ss)) →
    (time : ℕ) (differs : Bool) (e : EchoResponse) (listed : List ListedLocator) (ss : List Slot) → P ss → P (settled time differs e listed ss)
unfolding settled verify_all rebind renew_all retire_all
steps_keep P keep time differs e listed ss p =
    let one = keep (verify_locator e) (verify_settles e) ss p in
    let two = cond_all P differs (map (on_locator deprecate) (verify_all e ss)) (verify_all e ss) (λ d. keep deprecate deprecate_settles (verify_all e ss) one) (λ d. one) in
    let three = keep (renew time listed) (renew_settles time listed) (rebind differs (verify_all e ss)) two in
    keep (retire listed) (retire_settles listed) (renew_all time listed (rebind differs (verify_all e ss))) three

module _ (time : ℕ) (differs : Bool) (e : EchoResponse) (listed : List ListedLocator) (ss : List Slot) where
  pub settled_length : (n : ℕ) → length ss ≡ n → length (settled time differs e listed ss) ≡ n
  settled_length n p = steps_keep (λ xs. length xs ≡ n) (λ change s xs q. length-map xs (on_locator change) ∙ q) time differs e listed ss p

  pub settled_apart : Pairs Clear ss → Pairs Clear (settled time differs e listed ss)
  settled_apart p =
      steps_keep (Pairs Clear) (λ change s xs q. pairs_map Clear Clear (on_locator change) (settled_clear change s) xs q) time differs e listed ss p

  pub settled_without : (n : ℕ) → All (Lacks n) ss → All (Lacks n) (settled time differs e listed ss)
  settled_without n p =
      steps_keep (All (Lacks n)) (λ change s xs q. all_map (Lacks n) (Lacks n) (on_locator change) (settled_lacks change s n) xs q) time differs e listed ss p
