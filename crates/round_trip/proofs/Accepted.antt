-- An announcement is accepted where no refusal holds, and then it is the announcement of the list. Assumes nothing.
use Prim.Native.Nat.{ℕ, ◌^◌, ◌<◌, ◌≤◌}
use mathlib.Core.Path.{◌≡◌}
use mathlib.Core.List.{List}
use lib.Dec.{eqb}
use lib.ListN.{length, take, length-take}
use native.Mathlib.Omega.{arith}
use borrow.Author.Tests.{ltb-false, eqb-false}
use Rattle.boolean.proofs.Laws.{or_false_right}
use Rattle.locator_set.specs.Sets.{set_limit}
use Rattle.association.specs.declared.Association.{Association}
use Rattle.association.specs.Form.{id_limit}
use Rattle.association.proofs.Sound.{sound}
use Rattle.announcement.specs.declared.OwnLocator.{OwnLocator}
use Rattle.announcement.specs.Announcements.{Announced, announced, handled}
use Rattle.announcement.proofs.Ends.{Passed, announcement_ends}
use Rattle.std.specs.Prelude.{Ok}

module _ (a : Association) (list : List OwnLocator) (count inbound keymat room : ℕ) where
  pub is_passed : (handled a list count inbound keymat room).outcome ≡ (Ok tt) → Passed a list count inbound keymat room
  is_passed =
      announcement_ends (λ (h : Announced). h.outcome ≡ (Ok tt) → Passed a list count inbound keymat room) a
      (λ n e. let z : ◌≡◌ {A = ℕ} 0 1 = cc in absurd (omega arith)) list count inbound keymat room (λ p e. p)

  pub passed_answer : Passed a list count inbound keymat room → handled a list count inbound keymat room ≡ announced a (take count list) inbound keymat
  unfolding handled
  passed_answer p = rw (p.sound, p.few, p.well, p.usable, p.id_left, p.room_left)

  module _ (p : Passed a list count inbound keymat room) where
    -- at most eight entries are announced
    pub few_entries : length (take count list) ≤ set_limit
    few_entries =
        let few : count ≤ set_limit = ltb-false set_limit count (or_false_right (eqb count 0) _ p.few) in
        rw (length-take count list) (omega arith)

    -- the Update ID is one of 32 bits
    pub id_fits : a.next < 2 ^ 32
    id_fits = omega (arith, (sound a p.sound).next, eqb-false a.next id_limit p.id_left)
