-- The table lists each refusal at its number. Assumes nothing.
use mathlib.Core.Path.{◌≡◌, refl}
use Rattle.refusal.specs.declared.Refusal.{Refusal}
use Rattle.refusal.specs.declared.Refusal.TheVariants.{BadAssociation, ShortReplyBuffer, NotAuthentic, Malformed, UnknownParameter, UnknownMessage, BadLocatorSet, StaleUpdateId, UnmatchedEcho, WrongSpi, RepeatedNonce, UpdateIdsUsedUp, BadTime, BadSize, NoPath, NoCredit, BadStart, BadListSize, BadList, BadInboundSpi, NoUpdateIdLeft, ShortBuffer, LongOpaque, ShortTickBuffer}
use Rattle.refusal.specs.Table.{number_of, refusal}

-- each case is the refusal of its number
pub refusal_number : (r : Refusal) → refusal (number_of r) ≡ r
refusal_number BadAssociation = refl
refusal_number ShortReplyBuffer = refl
refusal_number NotAuthentic = refl
refusal_number Malformed = refl
refusal_number UnknownParameter = refl
refusal_number UnknownMessage = refl
refusal_number BadLocatorSet = refl
refusal_number StaleUpdateId = refl
refusal_number UnmatchedEcho = refl
refusal_number WrongSpi = refl
refusal_number RepeatedNonce = refl
refusal_number UpdateIdsUsedUp = refl
refusal_number BadTime = refl
refusal_number BadSize = refl
refusal_number NoPath = refl
refusal_number NoCredit = refl
refusal_number BadStart = refl
refusal_number BadListSize = refl
refusal_number BadList = refl
refusal_number BadInboundSpi = refl
refusal_number NoUpdateIdLeft = refl
refusal_number ShortBuffer = refl
refusal_number LongOpaque = refl
refusal_number ShortTickBuffer = refl
