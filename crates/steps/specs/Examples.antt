-- Worked examples, computed from the definitions: the last time at which the steps are taken, and the first at which they are not.
use Rattle.std.specs.Prelude.{ℕ, ◌≡◌, refl, [], ◌∷◌, None}
use Rattle.packet.specs.declared.EchoResponse.TheVariants.{Absent}
use Rattle.packet.specs.declared.MoveFields.{MoveFields}
use Rattle.slot.specs.declared.Status.{Status}
use Rattle.slot.specs.declared.Status.TheVariants.{Active, Deprecated}
use Rattle.slot.specs.declared.Slot.{Slot}
use Rattle.slot.specs.Found.{slot_of}
use Rattle.readdress.specs.declared.Placement.{Placement}
use Rattle.readdress.specs.Echoes.{verify_all}
use Rattle.readdress.specs.Steps.{rebind, renew_all, retire_all}
use Rattle.readdress.specs.Moves.{settled, placed}
use Rattle.association.specs.declared.Association.{Association}
use Rattle.steps.specs.Timely.{placement_at}

-- an address with this status
abbrev holding : Status → Slot
holding s = slot_of (record { address = record { high = 1; low = 1 }; traffic = 0; expiry = 60; status = s })

-- one address that is ACTIVE, at this time
abbrev at : (time : ℕ) → Association
at time = record { outbound = 7; inbound = 8; time = time; aged = 0; credit = 0; peer = None; next = 0; preferred = None; slots = holding Active ∷ [] }

-- a Move that lists nothing
abbrev fields : MoveFields
fields = record { keymat = 3; old = 7; new = 7; id = 5; echo = Absent }

abbrev alone : Status → Placement
alone s = record { slots = holding s ∷ []; preferred = None }

-- "Held addresses not listed turn DEPRECATED", below 2^40
times : placement_at (at 1099511627775) fields [] ∷ placement_at (at 1099511627776) fields [] ∷ [] ≡ alone Deprecated ∷ alone Active ∷ []
unfolding placed settled verify_all rebind renew_all retire_all
times = refl
