-- The locators of a set, and refusal 6. Here s is the bytes of a LOCATOR_SET.
use Rattle.std.specs.Prelude.{ℕ, ◌+◌, Bool, false, cond, ◌||◌, List, [], ◌∷◌, ◌++◌, Result, Ok, Err, map, ltb, eqb, length, take, drop, replicate}
use Rattle.refusal.specs.declared.Refusal.{Refusal}
use Rattle.refusal.specs.Table.{refusal}
use Rattle.std.specs.List.{list_any}
use Rattle.address.specs.Rules.{same_address}
use Rattle.address.specs.declared.Address.{Address}
use Rattle.locator.specs.Locators.{places, preferred_at, listed_address, illegal_at, listed_at}
use Rattle.locator.specs.declared.ListedLocator.{ListedLocator}
use Rattle.locator_set.specs.declared.LocatorSet.{LocatorSet}

-- "1 to 8 locators in a set"
abbrev pub set_limit : ℕ
set_limit = 8

-- "an address twice": one of those at the places `ats` stands among those before it, the first among `before`
unfoldable pub twice : List ℕ → List Address → List ℕ → Bool
twice s before [] = false
twice s before (at ∷ ats) = list_any (same_address (listed_address s at)) before || twice s (listed_address s at ∷ before) ats

-- a locator with P counts 1
abbrev pub mark : Bool → ℕ
mark preferred = cond preferred 1 0

-- how many have P, after `before` others
unfoldable pub marks : List ℕ → (before : ℕ) → List ℕ → ℕ
marks s before [] = before
marks s before (at ∷ ats) = marks s (before + mark (preferred_at s at)) ats

-- refusal 6: "set empty, over 8, not filled exactly, unknown traffic or locator type, wrong length, lifetime 0, address not legal, an
-- address twice, P twice". A set is not filled exactly where its last locator runs past its end, which `illegal_at` judges
abbrev pub refusal6 : List ℕ → Bool
refusal6 s =
    eqb (length s) 0
    || (ltb set_limit (length (places s)) || (list_any (illegal_at s) (places s) || (twice s [] (places s) || ltb 1 (marks s 0 (places s)))))

-- what stands in a set's array where no locator does
abbrev pub blank : ListedLocator
blank = record { address = record { high = 0; low = 0 }; lifetime = 0; spi = 0; traffic = 0; kind = 0; preferred = false }

-- an array that lists no locator
abbrev pub blanks : List ListedLocator
blanks = replicate set_limit blank

-- the set's locators, in order
abbrev pub listed_of : List ℕ → List ListedLocator
listed_of s = map (listed_at s) (places s)

-- the set's locators with blanks after them, eight in all
abbrev pub padded : List ListedLocator → List ListedLocator
padded ls = ls ++ drop (length ls) blanks

-- refusal 6
abbrev pub refused_set : Result LocatorSet Refusal
refused_set = Err (refusal 6)

-- the locators of a set that refusal 6 does not refuse, and how many they are
abbrev pub accepted_set : List ℕ → LocatorSet
accepted_set s = record { listed = padded (listed_of s); count = length (places s) }

-- what is read of a set: refusal 6, or its locators
unfoldable pub set_of : List ℕ → Result LocatorSet Refusal
set_of s = cond (refusal6 s) refused_set (Ok (accepted_set s))

-- the locators that a set holds: the first ones of its array
abbrev pub listed_in : LocatorSet → List ListedLocator
listed_in set = take set.count set.listed
