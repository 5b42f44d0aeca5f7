-- Document 01's table, and the refusals of orders 1 and 4, written out.
use Rattle.std.specs.Prelude.{ℕ, ◌≡◌, refl, List, [], ◌∷◌, map}
use Rattle.refusal.specs.declared.Refusal.{Refusal}
use Rattle.refusal.specs.declared.Refusal.TheVariants.{BadAssociation, ShortReplyBuffer, NotAuthentic, Malformed, UnknownParameter, UnknownMessage, BadLocatorSet, StaleUpdateId, UnmatchedEcho, WrongSpi, RepeatedNonce, UpdateIdsUsedUp, BadTime, BadSize, NoPath, NoCredit, BadStart, BadListSize, BadList, BadInboundSpi, NoUpdateIdLeft, ShortBuffer, LongOpaque, ShortTickBuffer}
use Rattle.refusal.specs.Table.{number_of, refusal}

-- a number of the table, and the refusal that it is
record Entry : Type 0 where
  number : ℕ
  why : Refusal

infixr 4 ◌is◌
abbrev ◌is◌ : ℕ → Refusal → Entry
number is why = record { number = number; why = why }

abbrev table : List Entry
table =
    -- "the association handed in has time 2^40 or more, .."
    (0 is BadAssociation)
    -- "reply buffer below 384 bytes"
    ∷ (1 is ShortReplyBuffer)
    -- "not marked authentic"
    ∷ (2 is NotAuthentic)
    -- "under 40 bytes, header rule broken, .."
    ∷ (3 is Malformed)
    -- "odd type not known"; 897 is known since order 1
    ∷ (4 is UnknownParameter)
    -- none of the three kinds
    ∷ (5 is UnknownMessage)
    -- "set empty, over 8, not filled exactly, .."
    ∷ (6 is BadLocatorSet)
    -- "Update ID below the highest seen"
    ∷ (7 is StaleUpdateId)
    -- "echo response matches no outstanding nonce"
    ∷ (8 is UnmatchedEcho)
    -- "a Move's OLD SPI not the outbound SPI, .."
    ∷ (9 is WrongSpi)
    -- "the 8 offered nonces not distinct .."
    ∷ (10 is RepeatedNonce)
    -- "next own ID + new checks over 2^32"
    ∷ (11 is UpdateIdsUsedUp)
    -- "tick: time before the stored time, or 2^40 or more"
    ∷ (12 is BadTime)
    -- "arrival or send: size outside the limit"
    ∷ (13 is BadSize)
    -- "send: no carrier ACTIVE or UNVERIFIED"
    ∷ (14 is NoPath)
    -- "send: UNVERIFIED chosen, credit not higher"
    ∷ (15 is NoCredit)
    -- "start: time 2^40 or more, .."
    ∷ (16 is BadStart)
    -- order 1: "list outside 1 to 8"
    ∷ (17 is BadListSize)
    -- "list row 6 would refuse"
    ∷ (18 is BadList)
    -- "SPI 0"
    ∷ (19 is BadInboundSpi)
    -- "own IDs used up"
    ∷ (20 is NoUpdateIdLeft)
    -- "buffer below what is to be written"
    ∷ (21 is ShortBuffer)
    -- "Opaque over 64"
    ∷ (22 is LongOpaque)
    -- order 4: "Tick now needs a 320-byte buffer"
    ∷ (23 is ShortTickBuffer)
    ∷ []

-- each refusal has its number, and each number its refusal
numbered : (map (λ (entry : Entry). number_of entry.why) table ≡ map (λ (entry : Entry). entry.number) table)
    × (map (λ (entry : Entry). refusal entry.number) table ≡ map (λ (entry : Entry). entry.why) table)
numbered = (refl, refl)
