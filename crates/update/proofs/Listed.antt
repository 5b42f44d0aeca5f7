-- An accepted Move leaves every address that it lists ACTIVE or UNVERIFIED. Assumes nothing.
use mathlib.Core.Path.{◌≡◌}
use mathlib.Core.Bool.{true, false}
use mathlib.Core.List.{List, [], ◌∷◌}
use Prim.Native.Nat.{ℕ, zero, suc, ◌≤◌}
use lib.ListN.{length, take}
use native.Mathlib.Omega.{arith}
use Rattle.address.specs.declared.Address.{Address}
use Rattle.packet.specs.declared.MoveFields.{MoveFields}
use Rattle.locator_set.specs.declared.LocatorSet.{LocatorSet}
use Rattle.locator_set.specs.Sets.{set_limit, listed_in}
use Rattle.slot.specs.Found.{status_in}
use Rattle.slots.proofs.Kept.{clear_pairs}
use Rattle.readdress.specs.Steps.{is_listed}
use Rattle.readdress.proofs.Live.{is_dead}
use Rattle.readdress.proofs.Moved.{listed_live}
use Rattle.association.specs.declared.Association.{Association}
use Rattle.association.proofs.Sound.{sound, Formed}
use Rattle.update.specs.Messages.{differs, after_move}

take_most : {A : Type 0} (n : ℕ) (xs : List A) → length (take n xs) ≤ n
take_most zero xs = omega arith
take_most (suc n) [] = omega arith
take_most (suc n) (x ∷ xs) = let r = take_most n xs in omega arith

pub move_lists : (x : Address) (a : Association) (m : MoveFields) (set : LocatorSet) (nonces : List ℕ) → set.count ≤ set_limit → Formed a →
    is_listed x (listed_in set) ≡ true → is_dead (status_in x (after_move a m (listed_in set) nonces).slots) ≡ false
unfolding after_move
move_lists x a m set nonces few p l =
    let s = sound a p.unrefused in
    let most = take_most set.count set.listed in
    listed_live a.time (differs a m) m.echo (listed_in set) a.preferred a.slots p.whole a.next nonces (omega arith)
    (clear_pairs a.slots s.apart) x l
