-- A set that is written is read back: where its entries start, how many they are, and what is listed. Assumes nothing.
use Prim.Native.Nat.{ℕ, ◌+◌, ◌-◌, ◌^◌, ◌<◌, ◌≤◌}
use mathlib.Core.Path.{◌≡◌, refl, sym, ap, ◌∙◌}
use mathlib.Core.List.{List, [], ◌∷◌, ◌++◌, map, append_assoc}
use lib.ListN.{length, length-append}
use native.Mathlib.Omega.{arith}
use Rattle.octets.specs.Records.{records}
use Rattle.octets.proofs.Runs.{records_more, records_none}
use Rattle.locator.specs.declared.ListedLocator.{ListedLocator}
use Rattle.locator.specs.Locators.{next_locator, places, listed_at}
use Rattle.locator_set.specs.Sets.{listed_of}
use Rattle.announcement.specs.declared.OwnLocator.{OwnLocator}
use Rattle.announcement.specs.Written.{entry_bytes, set_body}
use Rattle.announcement.specs.Sized.{AllSized}
use Rattle.announcement.specs.Entries.{entry_size, set_size, starts}
use Rattle.announcement.specs.Listed.{as_listed, AllKnown}
use Rattle.announcement.proofs.Sizes.{entry_length, units_least, set_length}
use Rattle.announcement.proofs.Standing.{Stands, next_read, listed_read}

-- the entries stand in s one after another, the first at `at`
unfoldable pub EachStands : (spi : ℕ) → List ℕ → (at : ℕ) → List OwnLocator → Type 0
EachStands spi s at [] = Unit {0}
EachStands spi s at (e ∷ es) = Stands spi s at e × EachStands spi s (at + entry_size e) es

-- those of a set do
each_stands : (spi : ℕ) (s : List ℕ) (at : ℕ) (es : List OwnLocator) (before : List ℕ) → s ≡ before ++ set_body spi es → at ≡ length before
    → EachStands spi s at es
unfolding EachStands set_body
each_stands spi s at [] before p q = tt
each_stands spi s at (e ∷ es) before p q =
    let rest : s ≡ (before ++ entry_bytes spi e) ++ set_body spi es = p ∙ sym (append_assoc before (entry_bytes spi e) (set_body spi es)) in
    let there : at + entry_size e ≡ length (before ++ entry_bytes spi e) = simp (length-append, entry_length) (omega arith) in
    (record { before = before; after = set_body spi es; bytes = p; place = q }, each_stands spi s (at + entry_size e) es (before ++ entry_bytes spi e) rest there)

pub set_stands : (spi : ℕ) (es : List OwnLocator) → EachStands spi (set_body spi es) 0 es
set_stands spi es = each_stands spi (set_body spi es) 0 es [] refl refl

-- the walk over the set comes to each entry, and to nothing else
walked : (spi : ℕ) (s : List ℕ) (at : ℕ) (es : List OwnLocator) (steps : ℕ) → EachStands spi s at es → length s ≡ at + set_size es → set_size es ≤ steps
    → records (λ (at : ℕ). at) (next_locator s) (length s) steps at ≡ starts at es
unfolding EachStands set_size starts
walked spi s at [] steps w p q = records_none (λ (at : ℕ). at) (next_locator s) (length s) steps at (omega arith)
walked spi s at (e ∷ es) steps w p q =
    let some_bytes = units_least e.kind in
    records_more (λ (at : ℕ). at) (next_locator s) (length s) steps at (omega arith) (omega arith)
    ∙ ap (λ (next : ℕ). at ∷ records (λ (at : ℕ). at) (next_locator s) (length s) (steps - 1) next) (next_read spi s at e w.0)
    ∙ ap (λ (ats : List ℕ). at ∷ ats) (walked spi s (at + entry_size e) es (steps - 1) w.1 (omega arith) (omega arith))

-- where the entries of a set start, whatever their types
pub places_read : (spi : ℕ) (es : List OwnLocator) → places (set_body spi es) ≡ starts 0 es
places_read spi es =
    let size = set_length spi es in
    walked spi (set_body spi es) 0 es (length (set_body spi es)) (set_stands spi es) (omega arith) (omega arith)

-- each has a start
pub starts_length : (at : ℕ) (es : List OwnLocator) → length (starts at es) ≡ length es
unfolding starts
starts_length at [] = refl
starts_length at (e ∷ es) = omega (arith, starts_length (at + entry_size e) es)

-- as many as there are
pub places_length : (spi : ℕ) (es : List OwnLocator) → length (places (set_body spi es)) ≡ length es
places_length spi es = ap length (places_read spi es) ∙ starts_length 0 es

listed_from : (spi : ℕ) (s : List ℕ) (at : ℕ) (es : List OwnLocator) → EachStands spi s at es → AllSized es → AllKnown es → spi < 2 ^ 32
    → map (listed_at s) (starts at es) ≡ map (as_listed spi) es
unfolding EachStands AllSized AllKnown starts
listed_from spi s at [] w z k h = refl
listed_from spi s at (e ∷ es) w z k h =
    ap (λ (l : ListedLocator). l ∷ map (listed_at s) (starts (at + entry_size e) es)) (listed_read spi s at e w.0 k.0 z.0 h)
    ∙ ap (λ (ls : List ListedLocator). as_listed spi e ∷ ls) (listed_from spi s (at + entry_size e) es w.1 z.1 k.1 h)

-- "Reading what we wrote gives back the list."
pub listed_back : (spi : ℕ) (es : List OwnLocator) → AllSized es → AllKnown es → spi < 2 ^ 32 → listed_of (set_body spi es) ≡ map (as_listed spi) es
listed_back spi es z k h =
    ap (λ (ats : List ℕ). map (listed_at (set_body spi es)) ats) (places_read spi es) ∙ listed_from spi (set_body spi es) 0 es (set_stands spi es) z k h
