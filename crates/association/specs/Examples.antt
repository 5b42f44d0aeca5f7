-- Worked examples, computed from the definitions: refusals 0 and 16 at the edge of each condition.
use Rattle.std.specs.Prelude.{ℕ, ◌^◌, ◌≡◌, refl, true, false, List, [], ◌∷◌, map, replicate, Err, None, Ok, Option, Some}
use Rattle.address.specs.declared.Address.{Address}
use Rattle.address.specs.Rules.{legal}
use Rattle.slot.specs.declared.Status.{Status}
use Rattle.slot.specs.declared.Status.TheVariants.{Unverified, Active, Deprecated}
use Rattle.slot.specs.declared.Slot.{Slot}
use Rattle.slot.specs.Found.{empty_slot, slot_of}
use Rattle.slot.specs.Clashes.{clash}
use Rattle.refusal.specs.declared.Refusal.TheVariants.{BadStart}
use Rattle.association.specs.declared.Association.{Association}
use Rattle.association.specs.Form.{refusal0, with_credit, with_clock, accepted, refused}
use Rattle.association.specs.Start.{no_association, started, start_of}

abbrev holding : (low : ℕ) → Status → Slot
holding low s = slot_of (record { address = record { high = 0x20010db800000000; low = low }; traffic = 0; expiry = 160; status = s })

-- UNVERIFIED, with a check of these numbers
abbrev checked : (nonce id issued resends : ℕ) → Status
checked nonce id issued resends = Unverified (record { nonce = nonce; id = id; issued = issued; resends = resends })

-- the same, issued at 100
abbrev waiting : (nonce id : ℕ) → Status
waiting nonce id = checked nonce id 100 0

abbrev with : (time aged credit next : ℕ) → Option ℕ → List Slot → Association
with time aged credit next p slots =
    record { outbound = 8193; inbound = 4097; time = time; aged = aged; credit = credit; peer = None; next = next; preferred = p; slots = slots }

-- two addresses, 1 with nonce 7 outstanding by Update ID 0, and this one with this nonce by Update ID 1
abbrev two : (low nonce : ℕ) → List Slot
two low nonce = empty_slot ∷ holding 1 (waiting 7 0) ∷ empty_slot ∷ empty_slot ∷ empty_slot ∷ empty_slot ∷ empty_slot ∷ holding low (waiting nonce 1) ∷ []

-- each breaks one condition, by as little as can be
abbrev broken : List Association
broken =
    with (2 ^ 40) 0 0 0 None (two 2 8)
    ∷ with 100 101 0 0 None (two 2 8)
    ∷ with 100 100 1048577 0 None (two 2 8)
    ∷ with 100 100 0 4294967297 None (two 2 8)
    ∷ with 100 100 0 0 (Some 8) (two 2 8)
    ∷ with 100 100 0 0 (Some 9) (two 2 8)
    ∷ with 100 100 0 0 (Some 255) (two 2 8)
    ∷ with 100 100 0 0 None (two 1 8)
    -- two equal outstanding nonces, with other Update IDs and with the same
    ∷ with 100 100 0 0 None (two 2 7)
    ∷ with 100 100 0 0 None (holding 1 (waiting 7 0) ∷ holding 2 (waiting 7 0) ∷ replicate 6 empty_slot)
    -- a DEPRECATED locator holds its address, and has no nonce outstanding
    ∷ with 100 100 0 0 None (holding 1 Active ∷ holding 1 Deprecated ∷ replicate 6 empty_slot)
    -- a check that is issued after the stored time, and one that was sent again five times
    ∷ with 100 100 0 0 None (holding 1 (checked 7 0 101 0) ∷ replicate 7 empty_slot)
    ∷ with 100 100 0 0 None (holding 1 (checked 7 0 100 5) ∷ replicate 7 empty_slot)
    ∷ []

-- each condition at its edge, and not broken
abbrev kept : List Association
kept =
    with 1099511627775 1099511627775 1048576 4294967296 (Some 7) (two 2 8)
    -- a preference may name an empty slot
    ∷ with 100 0 0 0 (Some 0) (two 2 8)
    ∷ with 100 100 0 0 None (holding 1 Active ∷ holding 2 Active ∷ holding 3 Deprecated ∷ holding 4 Deprecated ∷ replicate 4 empty_slot)
    ∷ with 100 100 0 0 None (replicate 8 empty_slot)
    -- other nonces by one Update ID
    ∷ with 100 100 0 0 None (holding 1 (waiting 7 0) ∷ holding 2 (waiting 8 0) ∷ replicate 6 empty_slot)
    -- a check that is issued now and was sent again four times
    ∷ with 100 100 0 0 None (holding 1 (checked 7 0 100 4) ∷ replicate 7 empty_slot)
    ∷ []

refusal_0 : (map refusal0 broken ≡ replicate 13 true) × (map refusal0 kept ≡ replicate 6 false) × (refusal0 no_association ≡ true)
unfolding refusal0 clash
refusal_0 = (refl, refl, refl)

abbrev home : Address
home = record { high = 0x20010db800000000; low = 1 }

-- refusal 16, by each condition, and the last start that passes
refusal_16 : (start_of (2 ^ 40) 8193 4097 home 60 ≡ refused 16 no_association)
    × (start_of 100 0 4097 home 60 ≡ refused 16 no_association)
    × (start_of 100 8193 0 home 60 ≡ refused 16 no_association)
    × (start_of 100 8193 4097 home 0 ≡ refused 16 no_association)
    × (start_of 100 8193 4097 (record { high = 0; low = 0 }) 60 ≡ refused 16 no_association)
    × (start_of 1099511627775 1 4294967295 home 1 ≡ accepted (started 1099511627775 1 4294967295 home 1))
unfolding start_of legal
refusal_16 = (refl, refl, refl, refl, refl, refl)

-- "(then no association)": what stands in its place holds nothing
abbrev nothing : Association
nothing = record {
  outbound = 0;
  inbound = 0;
  time = 1099511627776;
  aged = 0;
  credit = 0;
  peer = None;
  next = 0;
  preferred = None;
  slots = replicate 8 empty_slot;
}

-- what an accepted start holds, and a refused one leaves; "A refusal returns its number"
whole : (start_of 100 8193 4097 home 60
    ≡ record { outcome = (Ok tt); association = with 100 100 0 0 (Some 0) (holding 1 Active ∷ replicate 7 empty_slot) })
    × (start_of 100 8193 4097 home 0 ≡ record { outcome = Err BadStart; association = nothing })
unfolding start_of legal
whole = (refl, refl)

-- an association with another credit; with another clock, credit and slots; all else stays
changes : (with_credit (with 100 95 7 3 (Some 2) (two 2 8)) 9 ≡ with 100 95 9 3 (Some 2) (two 2 8))
    × (with_clock (with 100 95 7 3 (Some 2) (two 2 8)) 120 118 5 (two 4 6) ≡ with 120 118 5 3 (Some 2) (two 4 6))
changes = (refl, refl)
