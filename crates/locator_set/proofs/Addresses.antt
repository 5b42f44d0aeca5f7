-- Addresses that two arrays hold by their halves, and a worked example of them. Locator_set held those that it had read so, before it looked for an address among
-- the locators themselves: no code cites this. Assumes nothing.
use Rattle.std.specs.Prelude.{ℕ, zero, suc, ◌≡◌, refl, List, [], ◌∷◌, get_or}
use Rattle.address.specs.declared.Address.{Address}

-- the first n of the addresses that two arrays hold by their halves, the last one first
unfoldable pub addresses : ℕ → (highs lows : List ℕ) → List Address
addresses zero highs lows = []
addresses (suc n) highs lows = record { high = get_or highs n 0; low = get_or lows n 0 } ∷ addresses n highs lows

-- an address by its halves
abbrev address : (high low : ℕ) → Address
address high low = record { high = high; low = low }

-- the first two addresses of the arrays, the later one first
pub held : addresses 2 (1 ∷ 2 ∷ 3 ∷ []) (4 ∷ 5 ∷ 6 ∷ []) ≡ address 2 5 ∷ address 1 4 ∷ []
unfolding addresses
held = refl
