-- Slots that do not clash, as pairs; what expiry and resends do to all the slots: slots that do not clash still do not, checks stay good, and the status of an
-- address stays or turns DEPRECATED. Assumes nothing.
use mathlib.Core.Path.{◌≡◌, refl}
use mathlib.Core.Bool.{false}
use mathlib.Core.Logic.{inl, inr}
use mathlib.Core.List.{List, [], ◌∷◌}
use Prim.Native.Nat.{ℕ, ◌≤◌}
use native.Mathlib.Omega.{arith}
use Rattle.boolean.proofs.Laws.{or_false_left, or_false_right}
use Rattle.std.specs.List.{list_any}
use Rattle.address.specs.declared.Address.{Address}
use Rattle.check_times.specs.Times.{reached, is_given_up}
use Rattle.check_times.proofs.Moments.{reached_most, good, good_issued, good_resends}
use Rattle.slot.specs.declared.Check.{Check}
use Rattle.slot.specs.declared.Status.{Status}
use Rattle.slot.specs.declared.Slot.{Slot}
use Rattle.slot.specs.Found.{status_held, or_else, status_in, held_as}
use Rattle.slot.specs.Clashes.{clash}
use Rattle.slot.specs.Checks.{bad_check, resent, resend_status, resend_locator, resend_slot}
use Rattle.slot.specs.Expiry.{expire_locator, expire_held, expire_slot}
use Rattle.slot.proofs.Settled.{Clear, settled_clear}
use Rattle.slot.proofs.Expired.{expired_settles, KeptOrDeprecated, expired_status}
use Rattle.slot.proofs.Carried.{Carries, Fails, fails_carries, carries_fails, carries_imply, expired_carries, resent_carries}
use Rattle.slot.proofs.Resent.{resent_clear}
use Rattle.slots.specs.Rules.{clashing, bad_checks, expire_all, resend_all}
use Rattle.slots.proofs.Statuses.{status_map}
use Rattle.slots.proofs.Each.{All, Pairs, none_all, all_none, all_map, all_imply, pairs_map}
use Rattle.std.specs.Prelude.{None, Option, Some, option_map}

-- slots that do not clash, as pairs
pub clear_pairs : (ss : List Slot) → clashing ss ≡ false → Pairs Clear ss
unfolding Pairs
clear_pairs [] p = tt
clear_pairs (s ∷ ss) p =
    (none_all (clash s) ss (or_false_left (list_any (clash s) ss) (clashing ss) p), clear_pairs ss (or_false_right (list_any (clash s) ss) (clashing ss) p))

pub pairs_clear : (ss : List Slot) → Pairs Clear ss → clashing ss ≡ false
unfolding Pairs
pairs_clear [] p = refl
pairs_clear (s ∷ ss) p = rw (all_none (clash s) ss p.0) (pairs_clear ss p.1)

pub expired_clashing : (t : ℕ) (ss : List Slot) → clashing ss ≡ false → clashing (expire_all t ss) ≡ false
expired_clashing t ss p =
    pairs_clear (expire_all t ss)
    (pairs_map Clear Clear (expire_slot t) (settled_clear (expire_locator t) (expired_settles t)) ss (clear_pairs ss p))

either_kept : (o o' p p' : Option Status) → KeptOrDeprecated o o' → KeptOrDeprecated p p' → KeptOrDeprecated (or_else o p) (or_else o' p')
either_kept None o' p p' e h = rw e h
either_kept (Some s) o' p p' (inl e) h = inl (rw e)
either_kept (Some s) o' p p' (inr e) h = inr (rw e)

pub expired_statuses : (x : Address) (t : ℕ) (ss : List Slot) → KeptOrDeprecated (status_in x ss) (status_in x (expire_all t ss))
unfolding status_in
expired_statuses x t [] = refl
expired_statuses x t (s ∷ ss) =
    either_kept (status_held x s.holding) (status_held x (expire_held t s.holding)) (status_in x ss) (status_in x (expire_all t ss))
    (expired_status x t s.holding) (expired_statuses x t ss)

pub resent_statuses : (x : Address) (t : ℕ) (ss : List Slot) → status_in x (resend_all t ss) ≡ option_map (resend_status t) (status_in x ss)
resent_statuses x t ss = status_map (resend_locator t) (λ y s. resend_status t s) (λ l. refl) (λ l. refl) x ss

-- ---- the checks
-- what refusal 0 asks of a check
abbrev pub Good : (time : ℕ) → Check → Type 0
Good time = Fails (bad_check time)

pub good_all : (t : ℕ) (ss : List Slot) → bad_checks t ss ≡ false → All (Carries (Good t)) ss
good_all t ss p =
    all_imply (λ (s : Slot). held_as (bad_check t) s ≡ false) (Carries (Good t)) (fails_carries (bad_check t) refl refl) ss (none_all (held_as (bad_check t)) ss p)

pub all_good : (t : ℕ) (ss : List Slot) → All (Carries (Good t)) ss → bad_checks t ss ≡ false
all_good t ss p =
    all_none (held_as (bad_check t)) ss
    (all_imply (Carries (Good t)) (λ (s : Slot). held_as (bad_check t) s ≡ false) (carries_fails (bad_check t) refl refl) ss p)

-- ---- a tick: expiry, and then the resends
abbrev pub Young : (time : ℕ) → Check → Type 0
Young time k = is_given_up k.issued time ≡ false

pub ticked_carries : (P : Check → Type 0) (t : ℕ) → ((k : Check) → P k → P (resent t k)) → (ss : List Slot) → All (Carries P) ss →
    All (Carries (λ (k : Check). P k × Young t k)) (resend_all t (expire_all t ss))
ticked_carries P t again ss p =
    let Q : Check → Type 0 = λ (k : Check). P k × Young t k in
    all_map (Carries Q) (Carries Q) (resend_slot t) (resent_carries Q t (λ k q. (again k q.0, q.1))) (expire_all t ss)
    (all_map (Carries P) (Carries Q) (expire_slot t) (expired_carries P t) ss p)

pub ticked_good : (u t : ℕ) (ss : List Slot) → u ≤ t → bad_checks u ss ≡ false → bad_checks t (resend_all t (expire_all t ss)) ≡ false
ticked_good u t ss h p =
    all_good t (resend_all t (expire_all t ss))
    (all_imply (Carries (λ (k : Check). Good t k × Young t k)) (Carries (Good t)) (carries_imply (λ (k : Check). Good t k × Young t k) (Good t) (λ k q. q.0)) (resend_all t (expire_all t ss))
    (ticked_carries (Good t) t
    (λ k q. good k.issued (reached k.issued t) t (good_issued k.issued k.resends t q) (reached_most k.issued t)) ss
    (all_imply (Carries (Good u)) (Carries (Good t))
    (carries_imply (Good u) (Good t) (λ k q. let i = good_issued k.issued k.resends u q in good k.issued k.resends t (omega arith) (good_resends k.issued k.resends u q)))
    ss (good_all u ss p))))

pub ticked_clashing : (t : ℕ) (ss : List Slot) → clashing ss ≡ false → clashing (resend_all t (expire_all t ss)) ≡ false
ticked_clashing t ss p =
    pairs_clear (resend_all t (expire_all t ss))
    (pairs_map Clear Clear (resend_slot t) (resent_clear t) (expire_all t ss) (clear_pairs (expire_all t ss) (expired_clashing t ss p)))
