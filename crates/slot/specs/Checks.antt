-- The check of an UNVERIFIED locator as time goes on (order 4): "The UNVERIFIED record gains its issue time and count of resends".
use Rattle.std.specs.Prelude.{ℕ, Bool, false, cond}
use Rattle.check_times.specs.Times.{reached, is_due, is_given_up, is_bad_check}
use Rattle.slot.specs.declared.Check.{Check}
use Rattle.slot.specs.declared.Status.{Status}
use Rattle.slot.specs.declared.Status.TheVariants.{Unverified, Active, Deprecated}
use Rattle.slot.specs.declared.Locator.{Locator}
use Rattle.slot.specs.declared.Slot.{Slot}
use Rattle.slot.specs.Found.{with_status, on_locator}

-- the check is given up, "16 or more seconds after issue"
abbrev pub given_up : (time : ℕ) → Status → Bool
given_up time (Unverified k) = is_given_up k.issued time
given_up time Active = false
given_up time Deprecated = false

-- "Row 0 refuses an issue time after the stored time or a count over 4."
abbrev pub bad_check : (time : ℕ) → Status → Bool
bad_check time (Unverified k) = is_bad_check k.issued k.resends time
bad_check time Active = false
bad_check time Deprecated = false

-- "the count becomes that number"; its nonce, "its first Update ID" and its issue time stay
abbrev pub resent : (time : ℕ) → Check → Check
resent time k = record { nonce = k.nonce; id = k.id; issued = k.issued; resends = reached k.issued time }

-- a status after the resends of a tick: of "each check whose count is below the number of moments reached"
abbrev pub resend_status : (time : ℕ) → Status → Status
resend_status time (Unverified k) = cond (is_due k.issued k.resends time) (Unverified (resent time k)) (Unverified k)
resend_status time Active = Active
resend_status time Deprecated = Deprecated

-- a locator after them
abbrev pub resend_locator : (time : ℕ) → Locator → Locator
resend_locator time l = with_status l (resend_status time l.status)

-- a slot after them
abbrev pub resend_slot : (time : ℕ) → Slot → Slot
resend_slot time s = on_locator (resend_locator time) s
