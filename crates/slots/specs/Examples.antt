-- Worked examples, computed from the definitions.
use Rattle.std.specs.Prelude.{ℕ, ◌+◌, ◌≡◌, refl, true, false, List, [], ◌∷◌, map, replicate}
use Rattle.slot.specs.declared.Status.{Status}
use Rattle.slot.specs.declared.Status.TheVariants.{Unverified, Active, Deprecated}
use Rattle.slot.specs.declared.Slot.{Slot}
use Rattle.slot.specs.Found.{empty_slot, slot_of}
use Rattle.slot.specs.Clashes.{clash}
use Rattle.slots.specs.Rules.{clashing, bad_checks, expire_all, resend_all, is_outstanding}
use Rattle.slots.specs.Past.{past}

-- a slot that holds 2001:db8::n until 100 + n
abbrev held : (n : ℕ) → Status → Slot
held n s = slot_of (record { address = record { high = 0x20010db800000000; low = n }; traffic = 0; expiry = 100 + n; status = s })

-- UNVERIFIED, with this nonce, issued then and sent again so often
abbrev issued : (nonce time resends : ℕ) → Status
issued nonce time resends = Unverified (record { nonce = nonce; id = 3; issued = time; resends = resends })

-- the same, issued at 95 and sent again once
abbrev waiting : (nonce : ℕ) → Status
waiting nonce = issued nonce 95 1

-- eight slots: the first, one between and the last hold something
abbrev eight : (first middle last : Slot) → List Slot
eight first middle last = first ∷ empty_slot ∷ empty_slot ∷ middle ∷ empty_slot ∷ empty_slot ∷ empty_slot ∷ last ∷ []

-- "an address held twice, or two equal outstanding nonces": in the first and the last slot, the first and one between, one between and the last; in
-- none
clashes : (map clashing
    (eight (held 1 Active) (held 2 Active) (held 1 Deprecated)
    ∷ eight (held 1 Active) (held 1 Active) (held 2 Active)
    ∷ eight (held 1 Active) (held 2 Active) (held 2 Active)
    ∷ eight (held 1 (waiting 9)) (held 2 Active) (held 3 (waiting 9))
    ∷ eight (held 1 Active) (held 2 (waiting 9)) (held 3 (waiting 9))
    ∷ [])
    ≡ replicate 5 true)
    × (map clashing
    (eight (held 1 (waiting 7)) (held 2 (waiting 8)) (held 3 (waiting 9))
    ∷ eight (held 1 Active) (held 2 Active) (held 3 Deprecated)
    ∷ replicate 8 empty_slot
    ∷ []
    ∷ [])
    ≡ replicate 4 false)
unfolding clash
clashes = (refl, refl)

-- each locator by its own expiry, 101, 102 and 103
expiries : map (λ (time : ℕ). expire_all time (eight (held 1 Active) (held 2 (waiting 9)) (held 3 Active))) (100 ∷ 101 ∷ 102 ∷ 103 ∷ [])
    ≡ eight (held 1 Active) (held 2 (waiting 9)) (held 3 Active)
    ∷ eight (held 1 Deprecated) (held 2 (waiting 9)) (held 3 Active)
    ∷ eight (held 1 Deprecated) (held 2 Deprecated) (held 3 Active)
    ∷ eight (held 1 Deprecated) (held 2 Deprecated) (held 3 Deprecated)
    ∷ []
expiries = refl

-- a check in the first, the middle or the last slot that is issued after 100, or was sent again five times; none
bad_checks_lem : (map (bad_checks 100)
    (eight (held 1 (issued 7 101 0)) (held 2 Active) empty_slot
    ∷ eight (held 1 Active) (held 2 (issued 7 100 5)) (held 3 (waiting 9))
    ∷ eight (held 1 Active) empty_slot (held 3 (issued 7 101 5))
    ∷ [])
    ≡ replicate 3 true)
    × (map (bad_checks 100) (eight (held 1 (issued 7 100 4)) (held 2 Active) (held 3 (waiting 9)) ∷ replicate 8 empty_slot ∷ [] ∷ []) ≡ replicate 3 false)
bad_checks_lem = (refl, refl)

-- each locator by its own check: issued at 80, 84 and 85
given_up_lem : map (λ (time : ℕ). expire_all time (eight (held 1 (issued 7 80 4)) (held 2 (issued 8 84 4)) (held 3 (issued 9 85 4)))) (95 ∷ 96 ∷ 100 ∷ [])
    ≡ eight (held 1 (issued 7 80 4)) (held 2 (issued 8 84 4)) (held 3 (issued 9 85 4))
    ∷ eight (held 1 Deprecated) (held 2 (issued 8 84 4)) (held 3 (issued 9 85 4))
    ∷ eight (held 1 Deprecated) (held 2 Deprecated) (held 3 (issued 9 85 4))
    ∷ []
given_up_lem = refl

-- the counts after a tick at 100: issued at 98, 95 and 100
resends : resend_all 100 (eight (held 1 (issued 7 98 0)) (held 2 (issued 8 95 1)) (held 3 (issued 9 100 0)))
    ≡ eight (held 1 (issued 7 98 2)) (held 2 (issued 8 95 3)) (held 3 (issued 9 100 0))
resends = refl

-- before its expiry, 103, at it and past it; an empty slot is never
pasts : (map (λ (time : ℕ). past time (held 3 Active)) (102 ∷ 103 ∷ 104 ∷ []) ≡ false ∷ true ∷ true ∷ []) × (past 104 empty_slot ≡ false)
pasts = (refl, refl)

-- nonces 7 and 9 are outstanding; no other is, and not the Update ID of their checks
outstanding : (map (is_outstanding (eight (held 1 (waiting 7)) (held 2 Active) (held 3 (waiting 9)))) (7 ∷ 9 ∷ 8 ∷ 3 ∷ 0 ∷ [])
    ≡ true ∷ true ∷ false ∷ false ∷ false ∷ [])
    × (map (is_outstanding (eight (held 1 Active) (held 2 Deprecated) empty_slot)) (0 ∷ 3 ∷ []) ≡ false ∷ false ∷ [])
outstanding = (refl, refl)
