-- What expiry does to a slot: no check appears, and the status of an address stays or turns DEPRECATED. Assumes nothing.
use mathlib.Core.Path.{◌≡◌, refl}
use mathlib.Core.Bool.{Bool, true, false, cond}
use mathlib.Core.Logic.{◌⊎◌, inl, inr}
use Prim.Native.Nat.{ℕ}
use Rattle.address.specs.declared.Address.{Address}
use Rattle.address.specs.Rules.{same_address}
use Rattle.slot.specs.declared.Status.{Status}
use Rattle.slot.specs.declared.Status.TheVariants.{Deprecated}
use Rattle.slot.specs.declared.Locator.{Locator}
use Rattle.slot.specs.Found.{with_status, status_held, is_unverified}
use Rattle.slot.specs.Expiry.{is_over, expire_locator, expire_held}
use Rattle.slot.proofs.Settled.{Settles}
use Rattle.std.specs.Prelude.{None, Option, Some}

-- a locator by its expiry keeps its address, and its status stays or is DEPRECATED
pub expired_settles : (t : ℕ) → Settles (expire_locator t)
expired_settles t = record { address = λ l. kept_address l (is_over t l); status = λ l. kept_status l (is_over t l) }
  where
    kept_address : (l : Locator) (late : Bool) → (cond late (with_status l Deprecated) l).address ≡ l.address
    kept_address l true = refl
    kept_address l false = refl

    kept_status : (l : Locator) (late : Bool) →
        ((cond late (with_status l Deprecated) l).status ≡ l.status) ⊎ (is_unverified (cond late (with_status l Deprecated) l).status ≡ false)
    kept_status l true = inr refl
    kept_status l false = inl refl

-- the status of an address in a slot is as it was, or was there and is DEPRECATED
abbrev pub KeptOrDeprecated : (before after : Option Status) → Type 0
KeptOrDeprecated None after = after ≡ None
KeptOrDeprecated (Some s) after = (after ≡ Some s) ⊎ (after ≡ Some Deprecated)

pub kept : (o : Option Status) → KeptOrDeprecated o o
kept None = refl
kept (Some s) = inl refl

pub expired_status : (x : Address) (t : ℕ) (h : Option Locator) → KeptOrDeprecated (status_held x h) (status_held x (expire_held t h))
expired_status x t None = refl
expired_status x t (Some l) = go (is_over t l) (same_address x l.address) refl
  where
    go : (late here : Bool) → same_address x l.address ≡ here → KeptOrDeprecated (cond here (Some l.status) None) (status_held x (Some (cond late (with_status l Deprecated) l)))
    go true true e = inr (rw e)
    go true false e = rw e
    go false true e = inl (rw e)
    go false false e = rw e
