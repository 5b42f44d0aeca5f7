-- The entries of our list are judged as the bytes are that are written for them: whatever the SPI. Assumes nothing.
use Prim.Native.Nat.{ℕ, ◌+◌, ◌^◌, ◌<◌, ◌≤◌}
use mathlib.Core.Path.{◌≡◌, refl, sym, ap, ◌∙◌}
use mathlib.Core.Bool.{Bool, true, false, not, ◌||◌, or-true, or_assoc}
use mathlib.Core.List.{List, [], ◌∷◌, map}
use lib.Dec.{ltb, eqb}
use lib.ListN.{length}
use native.Mathlib.Omega.{arith}
use borrow.Author.Tests.{le-ltb, eq-eqb, ne_eqb, ltb-false, eqb-true, eqb-false}
use Rattle.boolean.proofs.Laws.{or_false_left, or_false_right}
use Rattle.std.specs.List.{list_any}
use Rattle.address.specs.declared.Address.{Address}
use Rattle.address.specs.Rules.{same_address, legal}
use Rattle.locator.specs.Locators.{listed_address, next_locator, ill_form, illegal_at}
use Rattle.locator_set.specs.Sets.{set_limit, twice, mark, marks, refusal6, listed_of}
use Rattle.announcement.specs.declared.OwnLocator.{OwnLocator}
use Rattle.announcement.specs.Written.{units_of, set_body}
use Rattle.announcement.specs.Sized.{Sized, AllSized}
use Rattle.announcement.specs.Entries.{entry_size, set_size, starts, ill_entry, twice_in, marks_in, ill_list}
use Rattle.announcement.specs.Listed.{as_listed, AllKnown}
use Rattle.announcement.proofs.Sizes.{units_known, set_length, set_least, set_most}
use Rattle.announcement.proofs.Standing.{Stands, within, next_read, traffic_read, kind_read, units_read, preferred_read, lifetime_read, address_read}
use Rattle.announcement.proofs.ReadBack.{EachStands, set_stands, places_read, starts_length, listed_back}

-- an entry that is not ill is of a known type
pub entry_known : (e : OwnLocator) → ill_entry e ≡ false → e.kind ≤ 1
unfolding ill_entry
entry_known e h = ltb-false 1 e.kind (or_false_left (ltb 1 e.kind) _ (or_false_right (ltb 2 e.traffic) _ h))

pub list_known : (es : List OwnLocator) → list_any ill_entry es ≡ false → AllKnown es
unfolding AllKnown
list_known [] h = tt
list_known (e ∷ es) h = (entry_known e (or_false_left (ill_entry e) _ h), list_known es (or_false_right (ill_entry e) _ h))

-- one entry
module _ (spi : ℕ) (s : List ℕ) (at : ℕ) (e : OwnLocator) (w : Stands spi s at e) (z : Sized e) where
  -- its form by its numbers
  abbrev form : Bool → Bool
  form unknown = ltb 2 e.traffic || (unknown || (not (eqb (units_of e.kind) (4 + e.kind)) || eqb e.lifetime 0))

  form_judged : ill_form s at ≡ form (ltb 1 e.kind)
  unfolding ill_form
  form_judged =
      rw (
        le-ltb (length s) (next_locator s at) (omega (arith, within spi s at e w, next_read spi s at e w)),
        traffic_read spi s at e w,
        kind_read spi s at e w,
        units_read spi s at e w,
        lifetime_read spi s at e w z,
      )

  entry_judged : illegal_at s at ≡ ill_entry e
  unfolding ill_entry
  entry_judged = ap (λ (ill : Bool). ill || not (legal (listed_address s at))) form_judged ∙ go (ltb 1 e.kind) refl
    where
      go : (b : Bool) → ltb 1 e.kind ≡ b
          → (form b || not (legal (listed_address s at))) ≡ (ltb 2 e.traffic || (b || (eqb e.lifetime 0 || not (legal e.address))))
      go true p = simp or-true
      go false p =
          let known : e.kind ≤ 1 = ltb-false 1 e.kind p in
          ap (λ (x : Address). form false || not (legal x)) (address_read spi s at e w known z)
          ∙ rw (eq-eqb (units_of e.kind) (4 + e.kind) (units_known e.kind known))
          (or_assoc (ltb 2 e.traffic) (eqb e.lifetime 0) (not (legal e.address)))

-- the entries that stand from a place on
forms_judged : (spi : ℕ) (s : List ℕ) (at : ℕ) (es : List OwnLocator) → EachStands spi s at es → AllSized es
    → list_any (illegal_at s) (starts at es) ≡ list_any ill_entry es
unfolding EachStands AllSized starts
forms_judged spi s at [] w z = refl
forms_judged spi s at (e ∷ es) w z =
    ap (λ (ill : Bool). ill || list_any (illegal_at s) (starts (at + entry_size e) es)) (entry_judged spi s at e w.0 z.0)
    ∙ ap (λ (ill : Bool). ill_entry e || ill) (forms_judged spi s (at + entry_size e) es w.1 z.1)

twice_judged : (spi : ℕ) (s : List ℕ) (at : ℕ) (before : List Address) (es : List OwnLocator) → EachStands spi s at es → AllSized es → AllKnown es
    → twice s before (starts at es) ≡ twice_in before es
unfolding EachStands AllSized AllKnown starts twice twice_in
twice_judged spi s at before [] w z k = refl
twice_judged spi s at before (e ∷ es) w z k =
    ap (λ (x : Address). list_any (same_address x) before || twice s (x ∷ before) (starts (at + entry_size e) es)) (address_read spi s at e w.0 k.0 z.0)
    ∙ ap (λ (ill : Bool). list_any (same_address e.address) before || ill) (twice_judged spi s (at + entry_size e) (e.address ∷ before) es w.1 z.1 k.1)

marks_judged : (spi : ℕ) (s : List ℕ) (at before : ℕ) (es : List OwnLocator) → EachStands spi s at es → marks s before (starts at es) ≡ marks_in before es
unfolding EachStands starts marks marks_in
marks_judged spi s at before [] w = refl
marks_judged spi s at before (e ∷ es) w =
    ap (λ (p : Bool). marks s (before + mark p) (starts (at + entry_size e) es)) (preferred_read spi s at e w.0)
    ∙ marks_judged spi s (at + entry_size e) (before + mark e.preferred) es w.1

-- the bytes of a set are empty where the list is
bytes_none : (spi : ℕ) (es : List OwnLocator) → eqb (length (set_body spi es)) 0 ≡ eqb (length es) 0
bytes_none spi es = go (eqb (length es) 0) refl
  where
    size : length (set_body spi es) ≡ set_size es
    size = set_length spi es

    go : (b : Bool) → eqb (length es) 0 ≡ b → eqb (length (set_body spi es)) 0 ≡ b
    go true p = eq-eqb (length (set_body spi es)) 0 (omega (arith, size, set_most es, eqb-true (length es) 0 p))
    go false p = ne_eqb (length (set_body spi es)) 0 (λ z. omega (arith, size, set_least es, eqb-false (length es) 0 p))

-- the places of a set judged, and its entries
places_judged : (spi : ℕ) (es : List OwnLocator) → AllSized es
    → (list_any (illegal_at (set_body spi es)) (starts 0 es) || (twice (set_body spi es) [] (starts 0 es) || ltb 1 (marks (set_body spi es) 0 (starts 0 es))))
    ≡ ill_list es
places_judged spi es z =
    ap (λ (ill : Bool). ill || (twice s [] (starts 0 es) || ltb 1 (marks s 0 (starts 0 es)))) (forms_judged spi s 0 es stand z)
    ∙ ap (λ (n : ℕ). list_any ill_entry es || (twice s [] (starts 0 es) || ltb 1 n)) (marks_judged spi s 0 0 es stand)
    ∙ go (list_any ill_entry es) refl
  where
    s : List ℕ
    s = set_body spi es

    stand : EachStands spi s 0 es
    stand = set_stands spi es

    go : (b : Bool) → list_any ill_entry es ≡ b → (b || (twice s [] (starts 0 es) || ltb 1 (marks_in 0 es))) ≡ (b || (twice_in [] es || ltb 1 (marks_in 0 es)))
    go true p = refl
    go false p = ap (λ (ill : Bool). ill || ltb 1 (marks_in 0 es)) (twice_judged spi s 0 [] es stand z (list_known es p))

-- refusal 6 of the bytes that are written for a list: it is empty, over eight, or its entries are refused
pub set_refused : (spi : ℕ) (es : List OwnLocator) → AllSized es
    → refusal6 (set_body spi es) ≡ (eqb (length es) 0 || (ltb set_limit (length es) || ill_list es))
set_refused spi es z =
    ap (λ (ats : List ℕ). eqb (length s) 0 || (ltb set_limit (length ats) || (list_any (illegal_at s) ats || (twice s [] ats || ltb 1 (marks s 0 ats)))))
    (places_read spi es)
    ∙ ap (λ (ill : Bool). eqb (length s) 0 || (ltb set_limit (length (starts 0 es)) || ill)) (places_judged spi es z)
    ∙ rw (bytes_none spi es, starts_length 0 es)
  where
    s : List ℕ
    s = set_body spi es

-- of at most eight entries
pub list_refused : (spi : ℕ) (es : List OwnLocator) → AllSized es → length es ≤ set_limit → refusal6 (set_body spi es) ≡ (eqb (length es) 0 || ill_list es)
list_refused spi es z few =
    set_refused spi es z ∙ ap (λ (many : Bool). eqb (length es) 0 || (many || ill_list es)) (le-ltb set_limit (length es) few)

-- a list that is not refused has entries of known types only, so it is listed as it is
pub accepted_known : (spi : ℕ) (es : List OwnLocator) → AllSized es → refusal6 (set_body spi es) ≡ false → AllKnown es
accepted_known spi es z h =
    let judged : (eqb (length es) 0 || (ltb set_limit (length es) || ill_list es)) ≡ false = sym (set_refused spi es z) ∙ h in
    let entries : ill_list es ≡ false = or_false_right (ltb set_limit (length es)) _ (or_false_right (eqb (length es) 0) _ judged) in
    list_known es (or_false_left (list_any ill_entry es) _ entries)

pub accepted_listed : (spi : ℕ) (es : List OwnLocator) → AllSized es → spi < 2 ^ 32 → refusal6 (set_body spi es) ≡ false
    → listed_of (set_body spi es) ≡ map (as_listed spi) es
accepted_listed spi es z h f = listed_back spi es z (accepted_known spi es z f) h
