-- Which answers refuse. Assumes nothing.
use mathlib.Core.Bool.{Bool, true, false}
use Rattle.std.specs.Prelude.{Err, Ok, Result, ⊤}
use Rattle.refusal.specs.declared.Refusal.{Refusal}

-- the call is refused
abbrev pub is_refused : Result ⊤ Refusal → Bool
is_refused (Ok tt) = false
is_refused (Err why) = true
