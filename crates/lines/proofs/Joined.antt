-- Texts one after another: those of two calls are those of both. Assumes nothing.
use Prim.Native.Nat.{ℕ, ◌+◌, ◌≤◌}
use mathlib.Core.Path.{◌≡◌, refl, sym, ◌∙◌}
use mathlib.Core.List.{List, [], ◌∷◌, ◌++◌}
use lib.ListN.{length, length-append}
use native.Mathlib.Omega.{arith}
use Rattle.octets.specs.Written.{joined}
use Rattle.writer.specs.Writes.{written_at}
use Rattle.writer.proofs.Writes.{written_length, written_then, written_none}
use Rattle.text.specs.Texts.{end_of}
use Rattle.text.proofs.Puts.{end_within}
use Rattle.lines.specs.Laid.{laid_out, laid_end, Laid}

-- no text
pub none : (at : ℕ) (buffer : List ℕ) → Laid [] at buffer buffer at
unfolding laid_out laid_end
none at buffer = record { buffer = refl; place = refl }

out_append : (x y : List (List ℕ)) (at : ℕ) (s : List ℕ) → laid_out y (laid_end x at s) (laid_out x at s) ≡ laid_out (x ++ y) at s
unfolding laid_out laid_end
out_append [] y at s = refl
out_append (t ∷ x) y at s = out_append x y (end_of at t s) (written_at at t s)

end_append : (x y : List (List ℕ)) (at : ℕ) (s : List ℕ) → laid_end y (laid_end x at s) (laid_out x at s) ≡ laid_end (x ++ y) at s
unfolding laid_out laid_end
end_append [] y at s = refl
end_append (t ∷ x) y at s = end_append x y (end_of at t s) (written_at at t s)

-- the texts of two calls, the second where the first ends
pub after : {x y : List (List ℕ)} {at mid next : ℕ} {s t u : List ℕ} → Laid x at s t mid → Laid y mid t u next → Laid (x ++ y) at s u next
after {x} {y} {at} {s = s} p q = record {
  buffer = rw (p.place, p.buffer) at q.buffer ∙ out_append x y at s;
  place = rw (p.place, p.buffer) at q.place ∙ end_append x y at s;
}

-- the same texts
pub same : {x y : List (List ℕ)} {at next : ℕ} {s t : List ℕ} → x ≡ y → Laid x at s t next → Laid y at s t next
same e p = rw e at p

-- texts that all fit are one text
pub laid_whole : (texts : List (List ℕ)) (at : ℕ) (s : List ℕ) → at + length (joined texts) ≤ length s
    → (laid_out texts at s ≡ written_at at (joined texts) s) × (laid_end texts at s ≡ at + length (joined texts))
unfolding laid_out laid_end
laid_whole [] at s h = (written_none at s, omega arith)
laid_whole (t ∷ texts) at s h =
    let size = length-append t (joined texts) in
    let end : end_of at t s ≡ at + length t = sym (end_within at t s (omega arith)) in
    let long = written_length at t s in
    let rest = laid_whole texts (at + length t) (written_at at t s) (omega arith) in
    let both : written_at (at + length t) (joined texts) (written_at at t s) ≡ written_at at (t ++ joined texts) s =
    written_then at (at + length t) t (joined texts) s refl (omega arith) in
    rw end (rest.0 ∙ both, omega (arith, rest.1))
