-- Document 01's table of refusals, and after 16 those of document 02's orders, which "get 17 and up": each refusal and its number.
use Rattle.std.specs.Prelude.{ℕ, List, [], ◌∷◌, get_or}
use Rattle.refusal.specs.declared.Refusal.{Refusal}
use Rattle.refusal.specs.declared.Refusal.TheVariants.{BadAssociation, ShortReplyBuffer, NotAuthentic, Malformed, UnknownParameter, UnknownMessage, BadLocatorSet, StaleUpdateId, UnmatchedEcho, WrongSpi, RepeatedNonce, UpdateIdsUsedUp, BadTime, BadSize, NoPath, NoCredit, BadStart, BadListSize, BadList, BadInboundSpi, NoUpdateIdLeft, ShortBuffer, LongOpaque, ShortTickBuffer}

-- "A refusal returns its number": the number of each case
abbrev pub number_of : Refusal → ℕ
number_of BadAssociation = 0
number_of ShortReplyBuffer = 1
number_of NotAuthentic = 2
number_of Malformed = 3
number_of UnknownParameter = 4
number_of UnknownMessage = 5
number_of BadLocatorSet = 6
number_of StaleUpdateId = 7
number_of UnmatchedEcho = 8
number_of WrongSpi = 9
number_of RepeatedNonce = 10
number_of UpdateIdsUsedUp = 11
number_of BadTime = 12
number_of BadSize = 13
number_of NoPath = 14
number_of NoCredit = 15
number_of BadStart = 16
number_of BadListSize = 17
number_of BadList = 18
number_of BadInboundSpi = 19
number_of NoUpdateIdLeft = 20
number_of ShortBuffer = 21
number_of LongOpaque = 22
number_of ShortTickBuffer = 23

-- the refusals in the order of their numbers, from 0
abbrev pub refusals : List Refusal
refusals =
    BadAssociation
    ∷ ShortReplyBuffer
    ∷ NotAuthentic
    ∷ Malformed
    ∷ UnknownParameter
    ∷ UnknownMessage
    ∷ BadLocatorSet
    ∷ StaleUpdateId
    ∷ UnmatchedEcho
    ∷ WrongSpi
    ∷ RepeatedNonce
    ∷ UpdateIdsUsedUp
    ∷ BadTime
    ∷ BadSize
    ∷ NoPath
    ∷ NoCredit
    ∷ BadStart
    ∷ BadListSize
    ∷ BadList
    ∷ BadInboundSpi
    ∷ NoUpdateIdLeft
    ∷ ShortBuffer
    ∷ LongOpaque
    ∷ ShortTickBuffer
    ∷ []

-- the refusal of a number: definitions of other crates name a refusal by the table's number, as `refusal 3`
abbrev pub refusal : ℕ → Refusal
refusal n = get_or refusals n BadAssociation
