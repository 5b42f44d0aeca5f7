-- Texts that are written one after another, each where the one before it ends.
use Rattle.std.specs.Prelude.{ℕ, ◌≡◌, List, [], ◌∷◌}
use Rattle.writer.specs.Writes.{written_at}
use Rattle.text.specs.Texts.{end_of}

-- the buffer after them
unfoldable pub laid_out : (texts : List (List ℕ)) → (at : ℕ) → (buffer : List ℕ) → List ℕ
laid_out [] at buffer = buffer
laid_out (text ∷ texts) at buffer = laid_out texts (end_of at text buffer) (written_at at text buffer)

-- and where the next one goes
unfoldable pub laid_end : (texts : List (List ℕ)) → (at : ℕ) → (buffer : List ℕ) → ℕ
laid_end [] at buffer = at
laid_end (text ∷ texts) at buffer = laid_end texts (end_of at text buffer) (written_at at text buffer)

-- what a function that puts texts leaves in the buffer, and answers
pub record Laid (texts : List (List ℕ)) (at : ℕ) (before after : List ℕ) (next : ℕ) : Type 0 where
  pub buffer : after ≡ laid_out texts at before
  pub place : next ≡ laid_end texts at before
