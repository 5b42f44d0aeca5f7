-- What slots hold in the cases.
use Rattle.std.specs.Prelude.{ℕ}
use Rattle.slot.specs.declared.Status.{Status}
use Rattle.slot.specs.declared.Status.TheVariants.{Unverified}
use Rattle.slot.specs.declared.Slot.{Slot}
use Rattle.slot.specs.Found.{slot_of}
use Rattle.cases.specs.Packets.{address}

-- a slot that holds address n
abbrev pub holding : (n traffic expiry : ℕ) → Status → Slot
holding n traffic expiry s = slot_of (record { address = address n; traffic = traffic; expiry = expiry; status = s })

-- the same for both kinds of traffic, with a lifetime of 60 set at 100
abbrev pub held : (n : ℕ) → Status → Slot
held n s = holding n 0 160 s

-- UNVERIFIED, with a check that was issued then and sent again so often
abbrev pub issued : (nonce id time resends : ℕ) → Status
issued nonce id time resends = Unverified (record { nonce = nonce; id = id; issued = time; resends = resends })

-- the same, issued at 100 and not sent again
abbrev pub checked : (nonce id : ℕ) → Status
checked nonce id = issued nonce id 100 0
