-- What refusal 0 refuses of two slots: "an address held twice, or two equal outstanding nonces".
use Rattle.std.specs.Prelude.{Bool, false, ◌||◌, eqb, None, Option, Some}
use Rattle.address.specs.Rules.{same_address}
use Rattle.slot.specs.declared.Status.{Status}
use Rattle.slot.specs.declared.Status.TheVariants.{Unverified, Active, Deprecated}
use Rattle.slot.specs.declared.Slot.{Slot}
use Rattle.slot.specs.declared.Locator.{Locator}

-- "two equal outstanding nonces": a nonce is outstanding where the status is UNVERIFIED
abbrev pub same_nonce : Status → Status → Bool
same_nonce (Unverified k) (Unverified l) = eqb k.nonce l.nonce
same_nonce (Unverified k) Active = false
same_nonce (Unverified k) Deprecated = false
same_nonce Active t = false
same_nonce Deprecated t = false

-- one address, or one outstanding nonce, in both
abbrev pub clash_held : Option Locator → Option Locator → Bool
clash_held None k = false
clash_held (Some l) None = false
clash_held (Some l) (Some m) = same_address l.address m.address || same_nonce l.status m.status

-- the same, of two slots
unfoldable pub clash : Slot → Slot → Bool
clash x y = clash_held x.holding y.holding
