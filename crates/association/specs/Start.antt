-- "Start takes time, two 32-bit SPIs, an address and a 32-bit lifetime. Slot 0 becomes ACTIVE, traffic type 0, preferred. Credit is 0; last
-- ageing is the start time."
use Rattle.std.specs.Prelude.{ℕ, ◌-◌, Bool, not, cond, ◌||◌, List, ◌∷◌, leb, eqb, replicate, None, Some}
use Rattle.address.specs.declared.Address.{Address}
use Rattle.address.specs.Rules.{legal}
use Rattle.slot.specs.declared.Status.TheVariants.{Active}
use Rattle.slot.specs.declared.Slot.{Slot}
use Rattle.slot.specs.Found.{slot_count, empty_slot, slot_of}
use Rattle.slot.specs.Expiry.{expiry_at}
use Rattle.path.specs.Choices.{traffic_both}
use Rattle.credit.specs.Clock.{time_limit}
use Rattle.association.specs.Form.{accepted, refused}
use Rattle.association.specs.declared.Association.{Association}
use Rattle.association.specs.declared.Answer.{Answer}

-- "an SPI 0". This is the one rule of which SPIs may not be used
abbrev pub unusable_spi : ℕ → Bool
unusable_spi spi = eqb spi 0

-- refusal 16: "start: time 2^40 or more, an SPI 0, lifetime 0, address not legal"
abbrev pub refusal16 : (time outbound inbound : ℕ) → Address → (lifetime : ℕ) → Bool
refusal16 time outbound inbound address lifetime =
    leb time_limit time || (unusable_spi outbound || (unusable_spi inbound || (eqb lifetime 0 || not (legal address))))

-- no slot holds anything
abbrev pub no_slots : List Slot
no_slots = replicate slot_count empty_slot

-- "(then no association)": what stands in its place, which refusal 0 refuses by its time
abbrev pub no_association : Association
no_association = record {
  outbound = 0;
  inbound = 0;
  time = time_limit;
  aged = 0;
  credit = 0;
  peer = None;
  next = 0;
  preferred = None;
  slots = no_slots;
}

-- "Slot 0 becomes ACTIVE, traffic type 0", and the others are empty
abbrev pub start_slots : (time : ℕ) → Address → (lifetime : ℕ) → List Slot
start_slots time address lifetime =
    slot_of (record { address = address; traffic = traffic_both; expiry = expiry_at time lifetime; status = Active }) ∷ replicate (slot_count - 1) empty_slot

-- the association that an accepted start makes: highest peer Update ID "none at first", next own Update ID "0 at first"
abbrev pub started : (time outbound inbound : ℕ) → Address → (lifetime : ℕ) → Association
started time outbound inbound address lifetime = record {
  outbound = outbound;
  inbound = inbound;
  time = time;
  aged = time;
  credit = 0;
  peer = None;
  next = 0;
  preferred = Some 0;
  slots = start_slots time address lifetime;
}

-- the answer to a start
unfoldable pub start_of : (time outbound inbound : ℕ) → Address → (lifetime : ℕ) → Answer
start_of time outbound inbound address lifetime =
    cond (refusal16 time outbound inbound address lifetime) (refused 16 no_association) (accepted (started time outbound inbound address lifetime))
