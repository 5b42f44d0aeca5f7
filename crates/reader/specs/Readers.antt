-- The walk over parameters "is offered as a reader that keeps the packet it was given and its place".
use Rattle.std.specs.Prelude.{ℕ, cond, List, Option, None, Some, Result, Ok, Err}
use Rattle.refusal.specs.declared.Refusal.{Refusal}
use Rattle.parameter.specs.declared.Parameter.{Parameter}
use Rattle.std.specs.Borrow.{Bor}
use Rattle.refusal.specs.Table.{refusal}
use Rattle.parameter.specs.Parameters.{step_at}
use Rattle.frame.specs.Header.{header_size}
use Rattle.frame.specs.Parameters.{falls_below}
use Rattle.reader.specs.declared.Cursor.{Cursor}
use Rattle.reader.specs.declared.ParameterReader.{ParameterReader}

-- a new reader's place: the first parameter follows the header, and no type is below 0
abbrev pub start : Cursor
start = record { at = header_size; last = 0 }

-- what stands at a place: a parameter, the end, or a refusal
abbrev pub Step : Type 0
Step = Result (Option Parameter) Refusal

-- a parameter stands there
abbrev pub found : Parameter → Step
found p = Ok (Some p)

-- "Types never fall along the packet": of what stands at a place, a type below the one before it is refused too
abbrev pub unless_falling : (last : ℕ) → Step → Step
unless_falling last (Ok (Some p)) = cond (falls_below last p) (Err (refusal 3)) (Ok (Some p))
unless_falling last (Ok None) = Ok None
unless_falling last (Err r) = Err r

-- what stands at a cursor
abbrev pub stands_at : List ℕ → Cursor → Step
stands_at s c = unless_falling c.last (step_at s c.at)

-- the place after it: past a parameter; where there is none, the same place, so that the next step answers the same
abbrev pub place_after : Cursor → Step → Cursor
place_after c (Ok (Some p)) = record { at = p.next; last = p.kind }
place_after c (Ok None) = c
place_after c (Err r) = c

-- what stands at a cursor, and the cursor after it
pub record Advanced : Type 0 where
  pub step : Step
  pub cursor : Cursor

-- one step at a cursor: what stands there, and the place after it
unfoldable pub advanced_of : List ℕ → Cursor → Advanced
advanced_of s c = record { step = stands_at s c; cursor = place_after c (stands_at s c) }

-- a new reader of a packet
abbrev pub fresh : Bor (List ℕ) → ParameterReader
fresh packet = record { packet = packet; cursor = start }

-- what stands at a reader's place, and the reader after it
pub record Stepped : Type 0 where
  pub step : Step
  pub reader : ParameterReader

-- one step of a reader: what stands at its place, and the reader of the same packet at the place after it
abbrev pub stepped_of : ParameterReader → Stepped
stepped_of r = record {
  step = (advanced_of r.packet.now r.cursor).step;
  reader = record { packet = r.packet; cursor = (advanced_of r.packet.now r.cursor).cursor };
}
