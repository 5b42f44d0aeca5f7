-- Steps 1 to 5 for every association that a caller may hand in.
use Rattle.std.specs.Prelude.{cond, List, leb}
use Rattle.packet.specs.declared.MoveFields.{MoveFields}
use Rattle.locator.specs.declared.ListedLocator.{ListedLocator}
use Rattle.credit.specs.Clock.{time_limit}
use Rattle.readdress.specs.declared.Placement.{Placement}
use Rattle.association.specs.declared.Association.{Association}
use Rattle.update.specs.Messages.{placement}

-- "time 2^40 or more": at such a time, which refusal 0 refuses, no step is taken
abbrev pub placement_at : Association → MoveFields → (set : List ListedLocator) → Placement
placement_at a m set = cond (leb time_limit a.time) (record { slots = a.slots; preferred = a.preferred }) (placement a m set)
