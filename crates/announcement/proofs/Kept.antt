-- No announcement makes an association that refusal 0 refuses. Assumes nothing.
use mathlib.Core.Path.{◌≡◌}
use mathlib.Core.Bool.{false}
use mathlib.Core.List.{List}
use Prim.Native.Nat.{ℕ, ◌+◌, ◌≤◌}
use native.Mathlib.Omega.{arith}
use lib.ListN.{length}
use borrow.Author.Tests.{eqb-false}
use Rattle.association.specs.declared.Association.{Association}
use Rattle.association.specs.Form.{id_limit}
use Rattle.association.proofs.Sound.{sound, not_refused, Formed, Keeps}
use Rattle.announcement.specs.declared.OwnLocator.{OwnLocator}
use Rattle.announcement.specs.Announcements.{refusal20, Announced, after_announcement, announcement_of}
use Rattle.announcement.proofs.Ends.{announcement_ends}

-- where the next own Update ID is not 2^32, one more is left
id_left : (next : ℕ) → next ≤ id_limit → refusal20 next ≡ false → next + 1 ≤ id_limit
id_left next h e =
    let other = eqb-false next id_limit e in
    go next id_limit h other
  where
    go : (n m : ℕ) → n ≤ m → (n ≡ m → ⊥) → n + 1 ≤ m
    go n m h o = omega (arith, o)

announced_formed : (a : Association) (inbound : ℕ) → Formed a → refusal20 a.next ≡ false → Formed (after_announcement a inbound)
unfolding after_announcement
announced_formed a inbound p e =
    let s = sound a p.unrefused in
    record {
      whole = p.whole;
      unrefused =
          not_refused (after_announcement a inbound)
          (record { time = s.time; aged = s.aged; credit = s.credit; next = id_left a.next s.next e; preferred = s.preferred; apart = s.apart; checks = s.checks });
    }

pub announcement_keeps : (list : List OwnLocator) (count inbound keymat : ℕ) (buffer : List ℕ) →
    Keeps (λ a. (announcement_of a list count inbound keymat buffer).association)
announcement_keeps list count inbound keymat buffer a p =
    announcement_ends (λ (h : Announced). Formed h.left) a (λ n. p) list count inbound keymat (length buffer) (λ q. announced_formed a inbound p q.id_left)
