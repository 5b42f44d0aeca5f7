-- What the laws ask of a status: whether it is live, and the nonce that it carries. Assumes nothing.
use mathlib.Core.Path.{◌≡◌, refl}
use mathlib.Core.Bool.{Bool, true, false}
use Prim.Native.Nat.{ℕ}
use Rattle.slot.specs.declared.Status.{Status}
use Rattle.slot.specs.declared.Status.TheVariants.{Unverified, Active, Deprecated}
use Rattle.slot.specs.Found.{is_active, found_as}
use Rattle.std.specs.Prelude.{None, Option, Some}

-- a status that is ACTIVE or UNVERIFIED
abbrev pub live : Option Status → Option Status
live None = None
live (Some (Unverified k)) = Some (Unverified k)
live (Some Active) = Some Active
live (Some Deprecated) = None

-- a status that is neither ACTIVE nor UNVERIFIED
abbrev pub is_dead : Option Status → Bool
is_dead None = true
is_dead (Some (Unverified k)) = false
is_dead (Some Active) = false
is_dead (Some Deprecated) = true

-- the nonce of the check that a status carries
abbrev pub nonce_held : Option Status → Option ℕ
nonce_held None = None
nonce_held (Some (Unverified k)) = Some k.nonce
nonce_held (Some Active) = None
nonce_held (Some Deprecated) = None

-- a status is ACTIVE, and has a nonce, by what is live of it
pub active_live : (o : Option Status) → found_as is_active o ≡ found_as is_active (live o)
active_live None = refl
active_live (Some (Unverified k)) = refl
active_live (Some Active) = refl
active_live (Some Deprecated) = refl

pub nonce_live : (o : Option Status) → nonce_held o ≡ nonce_held (live o)
nonce_live None = refl
nonce_live (Some (Unverified k)) = refl
nonce_live (Some Active) = refl
nonce_live (Some Deprecated) = refl

-- what is live is as it stands
pub live_some : (o : Option Status) (s : Status) → live o ≡ Some s → o ≡ Some s
live_some None s p = p
live_some (Some (Unverified k)) s p = p
live_some (Some Active) s p = p
live_some (Some Deprecated) s p = cc
