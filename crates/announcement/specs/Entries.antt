-- The entries of our list judged and counted as they are held, and not by their bytes: cited by private functions of `own_list` and by laws alone, and proved
-- to answer as the bytes do.
use Rattle.std.specs.Prelude.{ℕ, ◌+◌, ◌*◌, Bool, false, not, ◌||◌, List, [], ◌∷◌, ltb, eqb}
use Rattle.std.specs.List.{list_any}
use Rattle.address.specs.declared.Address.{Address}
use Rattle.address.specs.Rules.{same_address, legal}
use Rattle.locator.specs.Locators.{head_size, unit}
use Rattle.locator_set.specs.Sets.{mark}
use Rattle.announcement.specs.declared.OwnLocator.{OwnLocator}
use Rattle.announcement.specs.Written.{units_of}

-- how many bytes an entry takes
abbrev pub entry_size : OwnLocator → ℕ
entry_size e = head_size + unit * units_of e.kind

-- how many the set takes
unfoldable pub set_size : List OwnLocator → ℕ
set_size [] = 0
set_size (e ∷ es) = entry_size e + set_size es

-- where the entries start, the first at `at`
unfoldable pub starts : (at : ℕ) → List OwnLocator → List ℕ
starts at [] = []
starts at (e ∷ es) = at ∷ starts (at + entry_size e) es

-- "unknown traffic or locator type, wrong length, lifetime 0, address not legal": a length is never wrong, since it goes by the type
unfoldable pub ill_entry : OwnLocator → Bool
ill_entry e = ltb 2 e.traffic || (ltb 1 e.kind || (eqb e.lifetime 0 || not (legal e.address)))

-- "an address twice": one of the entries' stands among those before it, the first among `before`
unfoldable pub twice_in : (before : List Address) → List OwnLocator → Bool
twice_in before [] = false
twice_in before (e ∷ es) = list_any (same_address e.address) before || twice_in (e.address ∷ before) es

-- how many have P, after `before` others
unfoldable pub marks_in : (before : ℕ) → List OwnLocator → ℕ
marks_in before [] = before
marks_in before (e ∷ es) = marks_in (before + mark e.preferred) es

-- the entries by themselves, "an address twice, P twice"
abbrev pub ill_list : List OwnLocator → Bool
ill_list es = list_any ill_entry es || (twice_in [] es || ltb 1 (marks_in 0 es))
