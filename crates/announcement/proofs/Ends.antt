-- What holds of each way in which an announcement can end holds of the answer. Assumes nothing.
use mathlib.Core.Path.{◌≡◌, refl, sym}
use mathlib.Core.Bool.{true, false}
use mathlib.Core.List.{List, []}
use Prim.Native.Nat.{ℕ}
use lib.ListN.{length, take}
use Rattle.boolean.proofs.Laws.{apart, cond_all}
use Rattle.association.specs.declared.Association.{Association}
use Rattle.association.specs.Form.{refusal0}
use Rattle.association.proofs.Answers.{is_refused}
use Rattle.announcement.specs.declared.OwnLocator.{OwnLocator}
use Rattle.announcement.specs.Written.{announcement_bytes}
use Rattle.announcement.specs.Announcements.{refusal17, refusal18, refusal19, refusal20, refusal21, Announced, declined, announced, handled, buffer_after}

-- what an announcement that is not refused is let pass by
pub record Passed (a : Association) (list : List OwnLocator) (count inbound keymat room : ℕ) : Type 0 where
  pub sound : refusal0 a ≡ false
  pub few : refusal17 count ≡ false
  pub well : refusal18 inbound (take count list) ≡ false
  pub usable : refusal19 inbound ≡ false
  pub id_left : refusal20 a.next ≡ false
  pub room_left : refusal21 room (announcement_bytes a (take count list) inbound keymat) ≡ false

module _ (P : Announced → Type 0) (a : Association) (refusals : (n : ℕ) → P (declined n a)) (list : List OwnLocator) (count inbound keymat room : ℕ) where
  pub announcement_ends : (Passed a list count inbound keymat room → P (announced a (take count list) inbound keymat)) → P (handled a list count inbound keymat room)
  unfolding handled
  announcement_ends done =
      let es = take count list in
      cond_all P (refusal0 a) (declined 0 a) _ (λ q. refusals 0)
      (λ p0. cond_all P (refusal17 count) (declined 17 a) _ (λ q. refusals 17)
      (λ p1. cond_all P (refusal18 inbound es) (declined 18 a) _ (λ q. refusals 18)
      (λ p2. cond_all P (refusal19 inbound) (declined 19 a) _ (λ q. refusals 19)
      (λ p3. cond_all P (refusal20 a.next) (declined 20 a) _ (λ q. refusals 20)
      (λ p4. cond_all P (refusal21 room (announcement_bytes a es inbound keymat)) (declined 21 a) (announced a es inbound keymat) (λ q. refusals 21)
      (λ p5. done (record { sound = p0; few = p1; well = p2; usable = p3; id_left = p4; room_left = p5 })))))))

-- ---- a refusal leaves all as lent
abbrev AsLent : Association → Announced → Type 0
AsLent a h = is_refused h.outcome ≡ true → (h.left ≡ a) × (h.bytes ≡ [])

module _ (a : Association) (list : List OwnLocator) (count inbound keymat : ℕ) (buffer : List ℕ) where
  pub refused_as_lent : AsLent a (handled a list count inbound keymat (length buffer))
  refused_as_lent =
      announcement_ends (AsLent a) a (λ n e. (refl, refl)) list count inbound keymat (length buffer) (λ p e. apart (sym e))

  pub refused_buffer : is_refused (handled a list count inbound keymat (length buffer)).outcome ≡ true → buffer_after a list count inbound keymat buffer ≡ buffer
  refused_buffer e = rw (refused_as_lent e).1
