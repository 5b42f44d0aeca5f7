-- Where the echo lies, by the tests of the code. Assumes nothing.
use mathlib.Core.Path.{◌≡◌, refl}
use mathlib.Core.Bool.{Bool, true, false, not, cond, ◌&&◌, and-false}
use mathlib.Core.List.{List}
use Prim.Native.Nat.{ℕ, ◌+◌, ◌≤◌}
use native.Mathlib.Omega.{arith}
use lib.Dec.{eqb}
use lib.ListN.{length}
use borrow.Author.Tests.{eq-eqb, ne_eqb, eqb-true, not-true}
use Rattle.std.specs.Prelude.{Ok, Err}
use Rattle.boolean.proofs.Laws.{and_true_left, and_true_right}
use Rattle.parameter.specs.Types.{echo_response_signed, nonce_size}
use Rattle.refusal.specs.declared.Refusal.{Refusal}
use Rattle.frame.specs.Survey.{survey_of, refusal3, walk_of}
use Rattle.frame.specs.declared.Survey.{Survey}
use Rattle.frame.proofs.Answers.{walk_rejected, walk_complete}
use Rattle.frame.proofs.Within.{lies_within}
use Rattle.echo.specs.declared.Place.{Place}
use Rattle.echo.specs.Parts.{echoes, at_end, place_of}

-- ---- the place
abbrev Lies : List ℕ → Place → Type 0
Lies s place = place.start + place.len ≤ length s

module _ (s nonce : List ℕ) where
  pub place_short : (length nonce ≡ nonce_size → ⊥) → at_end s ≡ place_of s nonce
  unfolding place_of
  place_short h = rw (ne_eqb _ _ h)

  pub place_refused : {r : Refusal} → Err r ≡ walk_of s → at_end s ≡ place_of s nonce
  unfolding place_of
  place_refused e = simp ((walk_rejected s e refl).0, and-false)

  -- what the walk has seen of the first echo response
  module _ {z : Survey} (e : Ok z ≡ walk_of s) where
    pub echo_within : z.echo.body + z.echo.len ≤ length s
    echo_within = let w = walk_complete s e refl in rw w.1 (lies_within s echo_response_signed w.0)

    pub place_missed : echoes s z.echo nonce ≡ false → at_end s ≡ place_of s nonce
    unfolding place_of
    place_missed h = let w = walk_complete s e refl in let f = rw w.1 at h in simp (f, and-false)

    pub place_found : length nonce ≡ nonce_size → echoes s z.echo nonce ≡ true → record { start = z.echo.body; len = nonce_size } ≡ place_of s nonce
    unfolding place_of
    place_found l h = let w = walk_complete s e refl in let f = rw w.1 at h in rw (w.1, eq-eqb _ _ l, w.0, f)

  -- the part lies within the packet
  pub place_within : (place_of s nonce).start + (place_of s nonce).len ≤ length s
  unfolding place_of echoes
  place_within = go (eqb (length nonce) nonce_size && (not (refusal3 s) && echoes s (survey_of s).echo nonce)) refl
    where
      fits : (eqb (length nonce) nonce_size && (not (refusal3 s) && echoes s (survey_of s).echo nonce)) ≡ true
          → (survey_of s).echo.body + nonce_size ≤ length s
      fits h =
          let rest = and_true_right (eqb (length nonce) nonce_size) (not (refusal3 s) && echoes s (survey_of s).echo nonce) h in
          let allowed = not-true (refusal3 s) (and_true_left (not (refusal3 s)) (echoes s (survey_of s).echo nonce) rest) in
          let found = and_true_right (not (refusal3 s)) (echoes s (survey_of s).echo nonce) rest in
          let eight =
          eqb-true (survey_of s).echo.len nonce_size
          (and_true_left (eqb (survey_of s).echo.len nonce_size) _ (and_true_right (not (eqb (survey_of s).echo.times 0)) _ found)) in
          omega (arith, lies_within s echo_response_signed allowed)

      go : (b : Bool) → (eqb (length nonce) nonce_size && (not (refusal3 s) && echoes s (survey_of s).echo nonce)) ≡ b
          → Lies s (cond b (record { start = (survey_of s).echo.body; len = nonce_size }) (at_end s))
      go true h = fits h
      go false h = omega arith
