-- "Send picks: the preferred slot if ACTIVE; else the lowest ACTIVE slot; else the preferred slot if UNVERIFIED; else the lowest UNVERIFIED
-- slot; always among carriers."
use Rattle.std.specs.Prelude.{ℕ, Bool, false, cond, ◌&&◌, ◌||◌, List, eqb, None, Option, Some}
use Rattle.std.specs.List.{position_from}
use Rattle.slot.specs.declared.Status.{Status}
use Rattle.slot.specs.declared.Slot.{Slot}
use Rattle.slot.specs.Found.{slot_at, is_active, is_unverified}
use Rattle.path.specs.declared.Path.{Path}
use Rattle.path.specs.declared.Path.TheVariants.{ToActive, ToUnverified, NoCarrier}
use Rattle.slot.specs.declared.Locator.{Locator}

-- "traffic type (0 both, 1 signalling, 2 data)"
abbrev pub traffic_both : ℕ
traffic_both = 0

abbrev pub traffic_data : ℕ
traffic_data = 2

-- "A locator of traffic type 0 or 2 carries payload." Carrier is document 01's term for such a locator
abbrev pub carries : (traffic : ℕ) → Bool
carries traffic = eqb traffic traffic_both || eqb traffic traffic_data

-- a carrier whose status passes the test
abbrev pub carrier_held : (Status → Bool) → Option Locator → Bool
carrier_held test None = false
carrier_held test (Some l) = carries l.traffic && test l.status

-- "ACTIVE .. among carriers"
abbrev pub active_carrier : Slot → Bool
active_carrier s = carrier_held is_active s.holding

-- "UNVERIFIED .. among carriers"
abbrev pub unverified_carrier : Slot → Bool
unverified_carrier s = carrier_held is_unverified s.holding

-- "the preferred slot if" it fits
abbrev pub preferred_if : (fits : Slot → Bool) → Option ℕ → List Slot → Option ℕ
preferred_if fits None ss = None
preferred_if fits (Some n) ss = cond (fits (slot_at n ss)) (Some n) None

-- "the lowest .. slot" that fits, where the list begins with slot n
abbrev pub lowest : (fits : Slot → Bool) → (n : ℕ) → List Slot → Option ℕ
lowest fits n ss = position_from fits n ss

-- "else"
abbrev pub or_else : Option ℕ → Option ℕ → Option ℕ
or_else None c = c
or_else (Some n) c = Some n

-- the preferred slot if it fits; else the lowest slot that does
abbrev pub choice : (fits : Slot → Bool) → Option ℕ → List Slot → Option ℕ
choice fits p ss = or_else (preferred_if fits p ss) (lowest fits 0 ss)

-- the choice among ACTIVE carriers; else the one among UNVERIFIED carriers
abbrev pub path : (active unverified : Option ℕ) → Path
path (Some n) u = ToActive n
path None (Some n) = ToUnverified n
path None None = NoCarrier

-- the pick. This is the one rule of the order in which paths are tried
unfoldable pub path_of : Option ℕ → List Slot → Path
path_of p ss = path (choice active_carrier p ss) (choice unverified_carrier p ss)
