-- Step 1, and refusal 8: an echo response against the nonces that are outstanding.
use Rattle.std.specs.Prelude.{ℕ, eqb, Bool, true, false, not, cond, List, map}
use Rattle.packet.specs.declared.EchoResponse.{EchoResponse}
use Rattle.packet.specs.declared.EchoResponse.TheVariants.{Absent, Nonce, OtherLength}
use Rattle.slot.specs.declared.Status.{Status}
use Rattle.slot.specs.declared.Status.TheVariants.{Unverified, Active, Deprecated}
use Rattle.slot.specs.declared.Locator.{Locator}
use Rattle.slot.specs.declared.Slot.{Slot}
use Rattle.slot.specs.Found.{with_status, on_locator}
use Rattle.slots.specs.Rules.{is_outstanding}

-- "An echo response of 8 bytes equal to" this nonce
abbrev pub echoes : EchoResponse → (nonce : ℕ) → Bool
echoes Absent nonce = false
echoes (Nonce n) nonce = eqb n nonce
echoes OtherLength nonce = false

-- it is equal to the "outstanding nonce" of the check that this status carries
abbrev pub answers : EchoResponse → Status → Bool
answers e (Unverified k) = echoes e k.nonce
answers e Active = false
answers e Deprecated = false

-- it "turns that slot ACTIVE"
abbrev pub verify_status : EchoResponse → Status → Status
verify_status e s = cond (answers e s) Active s

-- the same, of a locator
abbrev pub verify_locator : EchoResponse → Locator → Locator
verify_locator e l = with_status l (verify_status e l.status)

-- step 1
unfoldable pub verify_all : EchoResponse → List Slot → List Slot
verify_all e ss = map (on_locator (verify_locator e)) ss

-- refusal 8: "echo response matches no outstanding nonce". One that is not 8 bytes long matches none
abbrev pub refusal8 : EchoResponse → List Slot → Bool
refusal8 Absent ss = false
refusal8 (Nonce n) ss = not (is_outstanding ss n)
refusal8 OtherLength ss = true
