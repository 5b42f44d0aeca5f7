-- The entries of our list judged and counted by a loop or a chain, and what they come to. Assumes nothing.
use Prim.Native.Nat.{ℕ, ◌+◌, ◌≤◌, ◌<◌}
use mathlib.Core.Path.{◌≡◌, refl, sym, ap, ◌∙◌}
use mathlib.Core.Bool.{Bool, true, false, ◌||◌}
use mathlib.Core.List.{List, [], ◌∷◌, ◌++◌, map, reverse}
use lib.ListN.{length, get_or, take, drop}
use native.Mathlib.Omega.{arith}
use borrow.Author.Tests.{ne_eqb}
use Rattle.std.specs.List.{list_any, count_by, fold, sum_by}
use Rattle.std.proofs.lemmas.List.{drop_all, take_more, drop_more, map_more, reverse-append}
use Rattle.std.proofs.lemmas.List.Sorted.{list_any-IsPermutation, IsPermutation-reverse}
use Rattle.std.proofs.lemmas.List.Recursion.{is_sum_by}
use Rattle.address.specs.declared.Address.{Address}
use Rattle.address.specs.Rules.{same_address}
use Rattle.locator_set.specs.Sets.{mark, set_limit, refusal6}
use Rattle.announcement.specs.declared.OwnLocator.{OwnLocator}
use Rattle.announcement.specs.Written.{set_body}
use Rattle.announcement.specs.Sized.{Sized, AllSized}
use Rattle.announcement.specs.Entries.{entry_size, set_size, twice_in, marks_in, ill_list}
use Rattle.announcement.proofs.Judged.{list_refused}

-- ---- the widths of one entry more
sized_push : (es : List OwnLocator) (e : OwnLocator) → AllSized es → Sized e → AllSized (es ++ (e ∷ []))
unfolding AllSized
sized_push [] e z s = (s, tt)
sized_push (x ∷ es) e z s = (z.0, sized_push es e z.1 s)

pub sized_more : (es : List OwnLocator) (i : ℕ) (d : OwnLocator) → i < length es → AllSized (take i es) → Sized (get_or es i d) → AllSized (take (i + 1) es)
sized_more es i d h z s = rw (take_more es i d h) (sized_push (take i es) (get_or es i d) z s)

-- ---- an address twice: the entries from i on decide, after the addresses of those before
-- the addresses of the first i entries, the last one first
abbrev pub earlier : List OwnLocator → (i : ℕ) → List Address
earlier es i = reverse (map (λ (e : OwnLocator). e.address) (take i es))

earlier_more : (es : List OwnLocator) (i : ℕ) (d : OwnLocator) → i < length es → earlier es (i + 1) ≡ (get_or es i d).address ∷ earlier es i
earlier_more es i d h =
    ap reverse (map_more (λ (e : OwnLocator). e.address) es i d h)
    ∙ reverse-append (map (λ (e : OwnLocator). e.address) (take i es)) ((get_or es i d).address ∷ [])

mapped_any : (address : Address) (es : List OwnLocator)
    → list_any (same_address address) (map (λ (e : OwnLocator). e.address) es) ≡ list_any (λ (e : OwnLocator). same_address address e.address) es
mapped_any address [] = refl
mapped_any address (e ∷ es) = ap (λ (b : Bool). same_address address e.address || b) (mapped_any address es)

earlier_any : (address : Address) (es : List OwnLocator) (i : ℕ)
    → list_any (same_address address) (earlier es i) ≡ list_any (λ (e : OwnLocator). same_address address e.address) (take i es)
earlier_any address es i =
    let addresses = map (λ (e : OwnLocator). e.address) (take i es) in
    sym (list_any-IsPermutation (same_address address) addresses (reverse addresses) (IsPermutation-reverse addresses))
    ∙ mapped_any address (take i es)

-- the turn at i, of which b says whether the address of entry i stands before
module _ (es : List OwnLocator) (i : ℕ) (d : OwnLocator) (b : Bool) (h : i < length es) (p : twice_in (earlier es i) (drop i es) ≡ twice_in [] es)
    (q : b ≡ list_any (λ (e : OwnLocator). same_address (get_or es i d).address e.address) (take i es)) where
  turn : (b || twice_in (earlier es (i + 1)) (drop (i + 1) es)) ≡ twice_in [] es
  unfolding twice_in
  turn =
      rw (q, ← earlier_any (get_or es i d).address es i, earlier_more es i d h)
      (ap (twice_in (earlier es i)) (sym (drop_more es i d h)) ∙ p)

  pub twice_found : b ≡ true → true ≡ twice_in [] es
  twice_found e = rw e at turn

  pub twice_passed : b ≡ false → twice_in (earlier es (i + 1)) (drop (i + 1) es) ≡ twice_in [] es
  twice_passed e = rw e at turn

pub twice_none : (es : List OwnLocator) (i : ℕ) → length es ≤ i → twice_in (earlier es i) (drop i es) ≡ twice_in [] es → false ≡ twice_in [] es
unfolding twice_in
twice_none es i h p = rw (drop_all i es h) at p

-- ---- how many have P, and how many bytes they take
marks_from : (n : ℕ) (es : List OwnLocator) → fold (λ (a : ℕ) (e : OwnLocator). a + mark e.preferred) n es ≡ marks_in n es
unfolding marks_in
marks_from n [] = refl
marks_from n (e ∷ es) = marks_from (n + mark e.preferred) es

pub marks_counted : (es : List OwnLocator) (n : ℕ) → n ≡ count_by (λ (e : OwnLocator). e.preferred) es → n ≡ marks_in 0 es
marks_counted es n p = p ∙ marks_from 0 es

pub sizes_summed : (es : List OwnLocator) (n : ℕ) → n ≡ sum_by entry_size es → n ≡ set_size es
unfolding set_size
sizes_summed es n p = p ∙ sym (is_sum_by set_size entry_size refl (λ x xs. refl) es)

-- ---- the list as a whole
pub empty_refused : (es : List OwnLocator) → length es ≡ 0 → (inbound : ℕ) → true ≡ refusal6 (set_body inbound es)
unfolding set_body
empty_refused [] p inbound = refl
empty_refused (e ∷ es) p inbound = absurd (omega arith)

pub list_refused_as : (es : List OwnLocator) (ill : Bool) → length es ≤ set_limit → (length es ≡ 0 → ⊥) → ill ≡ ill_list es → AllSized es
    → (inbound : ℕ) → ill ≡ refusal6 (set_body inbound es)
list_refused_as es ill few some p z inbound = p ∙ sym (rw (ne_eqb (length es) 0 some) at (list_refused inbound es z few))
