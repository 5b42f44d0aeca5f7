-- The locators of a set that is not refused, written again, are the set's bytes. Assumes nothing.
use Prim.Native.Nat.{ℕ, zero, suc, ◌+◌, ◌-◌, ◌*◌, ◌%◌, ◌<◌, ◌≤◌}
use mathlib.Core.Path.{◌≡◌, refl, sym, ap, ◌∙◌}
use mathlib.Core.Bool.{Bool, true, false, not, cond}
use mathlib.Core.List.{List, [], ◌∷◌, ◌++◌, map}
use lib.Dec.{ltb, eqb}
use lib.ListN.{length, get_or, take, drop, length-take, length-drop, take-append-drop, drop_of_length-le}
use lib.Seq.{drop-cons, drop-drop}
use native.Mathlib.Omega.{arith}
use native.Mathlib.Numerals.{towards_suc}
use borrow.Author.Tests.{ltb-true, ltb-false}
use Rattle.boolean.proofs.Laws.{or_false_left, or_false_right}
use Rattle.octets.specs.Records.{records}
use Rattle.std.specs.List.{list_any}
use Rattle.octets.specs.Written.{bytes_of, Octets}
use Rattle.octets.proofs.ReadBack.{number_written}
use Rattle.address.specs.Rules.{legal}
use Rattle.locator.specs.declared.ListedLocator.{ListedLocator}
use Rattle.locator.specs.Locators.{spi_type, traffic_at, kind_at, units_at, preferred_at, lifetime_at, listed_address, spi_at, next_locator, places, ill_form, illegal_at, listed_at}
use Rattle.locator.proofs.Entries.{lies_within, address_ends}
use Rattle.locator_set.specs.Sets.{mark, listed_of}
use Rattle.announcement.specs.Written.{units_of, spi_bytes, address_bytes, entry_bytes, set_body}
use Rattle.announcement.proofs.Sizes.{spi_length}
use Rattle.round_trip.specs.Each.{Each}
use Rattle.round_trip.specs.Written.{Unreserved, own_of}
use Rattle.round_trip.proofs.Parts.{part_split, number_first}

-- four bytes, and what follows them
bytes_first : (s : List ℕ) (at k : ℕ) → at + 4 ≤ length s
    → take (4 + k) (drop at s) ≡ get_or s at 0 ∷ get_or s (at + 1) 0 ∷ get_or s (at + 2) 0 ∷ get_or s (at + 3) 0 ∷ take k (drop (at + 4) s)
bytes_first s at k h =
    let size : 4 + k ≡ suc (suc (suc (suc k))) = omega arith in
    rw (
      size,
      drop-cons s at 0 (omega arith),
      drop-cons s (suc at) 0 (omega arith),
      drop-cons s (suc (suc at)) 0 (omega arith),
      drop-cons s (suc (suc (suc at))) 0 (omega arith),
    ) (simp towards_suc)

-- P alone in its byte
mark_again : (byte : ℕ) → byte < 2 → byte ≡ mark (eqb (byte % 2) 1)
mark_again zero h = refl
mark_again (suc zero) h = refl
mark_again (suc (suc byte)) h = absurd (omega arith)

-- ---- one locator
module _ (s : List ℕ) (o : Octets s) (new at : ℕ) (good : illegal_at s at ≡ false) where
  known : kind_at s at ≤ 1
  unfolding ill_form
  known =
      let form = or_false_left (ill_form s at) (not (legal (listed_address s at))) good in
      let past = or_false_right (ltb (length s) (next_locator s at)) _ form in
      let traffic = or_false_right (ltb 2 (traffic_at s at)) _ past in
      ltb-false 1 (kind_at s at) (or_false_left (ltb 1 (kind_at s at)) _ traffic)

  -- it ends with its address, within the set
  ends : at + 24 + 4 * kind_at s at ≤ length s
  ends = omega (arith, lies_within s at good, address_ends s at good)

  -- its SPI, where it has one
  spi_again : (kind_at s at ≡ spi_type → spi_at s at ≡ new) → take (4 * kind_at s at) (drop (at + 8) s) ≡ spi_bytes (kind_at s at) new
  spi_again same = go (kind_at s at) refl known
    where
      go : (k : ℕ) → kind_at s at ≡ k → k ≤ 1 → take (4 * k) (drop (at + 8) s) ≡ spi_bytes k new
      go zero e h = refl
      go (suc zero) e h =
          sym (number_written s (at + 8) 4 o (omega (arith, ends))) ∙ ap (bytes_of 4) (rw e at (same e))
      go (suc (suc k)) e h = absurd (omega arith)

  -- the bytes after its first four
  rest_again : (kind_at s at ≡ spi_type → spi_at s at ≡ new)
      → take (4 + (4 * kind_at s at + 16)) (drop (at + 4) s)
      ≡ bytes_of 4 (lifetime_at s at) ++ (spi_bytes (kind_at s at) new ++ address_bytes (listed_address s at))
  rest_again same =
      let k : ℕ = kind_at s at in
      let eight : at + 4 + 4 ≡ at + 8 = omega arith in
      let room = ends in
      number_first s (at + 4) 4 (4 * k + 16) o (omega arith)
      ∙ ap (λ (n : ℕ). bytes_of 4 (lifetime_at s at) ++ take (4 * k + 16) (drop n s)) eight
      ∙ ap (λ (l : List ℕ). bytes_of 4 (lifetime_at s at) ++ l) (
      part_split s (at + 8) (4 * k) 16
      ∙ ap (λ (l : List ℕ). l ++ take 16 (drop (at + 8 + 4 * k) s)) (spi_again same)
      ∙ ap (λ (l : List ℕ). spi_bytes k new ++ l) (
      number_first s (at + 8 + 4 * k) 8 8 o (omega arith)
      ∙ ap (λ (l : List ℕ). bytes_of 8 (listed_address s at).high ++ l) (sym (number_written s (at + 8 + 4 * k + 8) 8 o (omega arith)))
      )
      )

  entry_again : Unreserved s at → (kind_at s at ≡ spi_type → spi_at s at ≡ new)
      → take (next_locator s at - at) (drop at s) ≡ entry_bytes new (own_of (listed_at s at))
  unfolding entry_bytes
  entry_again free same =
      let k : ℕ = kind_at s at in
      let room = ends in
      let size : next_locator s at - at ≡ 4 + (4 + (4 * k + 16)) = omega (arith, address_ends s at good) in
      let spi : length (spi_bytes k new) ≡ 4 * k =
      ap length (sym (spi_again same)) ∙ rw (length-take (4 * k) (drop (at + 8) s), length-drop (at + 8) s) (omega arith) in
      let units : units_at s at ≡ units_of k = omega (arith, spi, spi_length k new, address_ends s at good) in
      ap (λ (n : ℕ). take n (drop at s)) size
      ∙ bytes_first s at (4 + (4 * k + 16)) (omega arith)
      ∙ ap (λ (n : ℕ). traffic_at s at ∷ k ∷ n ∷ get_or s (at + 3) 0 ∷ take (4 + (4 * k + 16)) (drop (at + 4) s)) units
      ∙ ap (λ (n : ℕ). traffic_at s at ∷ k ∷ units_of k ∷ n ∷ take (4 + (4 * k + 16)) (drop (at + 4) s)) (mark_again (get_or s (at + 3) 0) free)
      ∙ ap (λ (l : List ℕ). traffic_at s at ∷ k ∷ units_of k ∷ mark (preferred_at s at) ∷ l) (rest_again same)

-- ---- all locators
module _ (s : List ℕ) (o : Octets s) (new : ℕ) where
  -- the places from one on
  abbrev from : (steps at : ℕ) → List ℕ
  from steps at = records (λ (at : ℕ). at) (next_locator s) (length s) steps at

  -- what is written again for the locators at these places
  abbrev again : List ℕ → List ℕ
  again ats = set_body new (map own_of (map (listed_at s) ats))

  -- what is asked of them
  pub record Fair (ats : List ℕ) : Type 0 where
    pub good : list_any (illegal_at s) ats ≡ false
    pub free : Each (Unreserved s) ats
    pub same : Each (λ (l : ListedLocator). l.kind ≡ spi_type → l.spi ≡ new) (map (listed_at s) ats)

  one_again : (at : ℕ) (ats : List ℕ) → Fair (at ∷ ats) → (Fair ats → drop (next_locator s at) s ≡ again ats) → drop at s ≡ again (at ∷ ats)
  unfolding Each set_body
  one_again at ats h rest =
      let good : illegal_at s at ≡ false = or_false_left (illegal_at s at) _ h.good in
      let n : ℕ = next_locator s at - at in
      let there : at + n ≡ next_locator s at = omega (arith, lies_within s at good) in
      let others : Fair ats = record { good = or_false_right (illegal_at s at) _ h.good; free = h.free.1; same = h.same.1 } in
      sym (take-append-drop n (drop at s))
      ∙ ap (λ (l : List ℕ). l ++ drop n (drop at s)) (entry_again s o new at good h.free.0 h.same.0)
      ∙ ap (λ (l : List ℕ). entry_bytes new (own_of (listed_at s at)) ++ l) (drop-drop n at s ∙ ap (λ (k : ℕ). drop k s) there ∙ rest others)

  none_again : (at : ℕ) → length s ≤ at → drop at s ≡ again []
  unfolding set_body
  none_again at h = drop_of_length-le s h

  run_again : (steps at : ℕ) → length s - at ≤ steps → Fair (from steps at) → drop at s ≡ again (from steps at)
  unfolding records
  run_again zero at e h = none_again at (omega arith)
  run_again (suc steps) at e h = go (ltb at (length s)) refl (run_again steps (next_locator s at)) h
    where
      rest : List ℕ
      rest = from steps (next_locator s at)

      go : (b : Bool) → ltb at (length s) ≡ b → (length s - next_locator s at ≤ steps → Fair rest → drop (next_locator s at) s ≡ again rest)
          → Fair (cond b (at ∷ rest) []) → drop at s ≡ again (cond b (at ∷ rest) [])
      go true p ih h = one_again at rest h (ih (omega (arith, ltb-true at (length s) p)))
      go false p ih h = none_again at (ltb-false at (length s) p)

  -- the set
  pub set_again : Fair (places s) → s ≡ set_body new (map own_of (listed_of s))
  set_again h = run_again (length s) 0 (omega arith) h
