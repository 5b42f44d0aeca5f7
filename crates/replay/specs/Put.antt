-- What a function that puts texts leaves of the text that is held. Private functions alone cite this.
use Rattle.std.specs.Prelude.{ℕ, List}
use Rattle.lines.specs.Laid.{Laid}
use Rattle.replay.specs.declared.words.Text.{Text}

-- these texts stand after those that were held before
abbrev pub Put : List (List ℕ) → (before after : Text) → Type 0
Put texts before after = Laid texts before.used before.bytes after.bytes after.used
