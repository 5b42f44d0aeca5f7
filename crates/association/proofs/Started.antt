-- What a start makes. Assumes nothing.
use mathlib.Core.Path.{◌≡◌, refl}
use mathlib.Core.Bool.{Bool, true, false, not, cond, ◌||◌}
use Prim.Native.Nat.{ℕ, ◌<◌}
use lib.Dec.{leb, eqb}
use native.Mathlib.Omega.{arith}
use borrow.Author.Tests.{leb-false}
use Rattle.boolean.proofs.Laws.{or_false_left}
use Rattle.address.specs.declared.Address.{Address}
use Rattle.address.specs.Rules.{same_address, legal}
use Rattle.slot.specs.declared.Status.TheVariants.{Active}
use Rattle.slot.specs.Found.{or_else, status_in}
use Rattle.slot.specs.Clashes.{clash}
use Rattle.credit.specs.Clock.{time_limit}
use Rattle.association.specs.Form.{refusal0}
use Rattle.association.specs.Start.{unusable_spi, refusal16, no_association, start_slots, started}
use Rattle.association.proofs.Sound.{not_refused, Formed}
use Rattle.std.specs.Prelude.{None, Some}

module _ (time outbound inbound : ℕ) (address : Address) (lifetime : ℕ) where
  abbrev bad : Bool
  bad = refusal16 time outbound inbound address lifetime

  abbrev others : Bool
  others = unusable_spi outbound || (unusable_spi inbound || (eqb lifetime 0 || not (legal address)))

  -- refusal 16 refuses a late start
  start_early : bad ≡ false → time < time_limit
  start_early p = leb-false time_limit time (or_false_left (leb time_limit time) others p)

  -- refusal 0 does not refuse what an accepted start makes
  pub started_formed : bad ≡ false → Formed (started time outbound inbound address lifetime)
  unfolding clash
  started_formed p = record {
    whole = refl;
    unrefused =
        not_refused (started time outbound inbound address lifetime)
        (record { time = start_early p; aged = omega arith; credit = omega arith; next = omega arith; preferred = refl; apart = refl; checks = refl });
  }

  -- an accepted start holds its address ACTIVE, and no other
  pub started_status : (x : Address) → status_in x (start_slots time address lifetime) ≡ cond (same_address x address) (Some Active) None
  unfolding status_in
  started_status x = go (same_address x address)
    where
      go : (b : Bool) → or_else (cond b (Some Active) None) None ≡ cond b (Some Active) None
      go true = refl
      go false = refl

-- refusal 0 refuses what a refused start leaves
pub none_refused : refusal0 no_association ≡ true
unfolding refusal0
none_refused = refl
