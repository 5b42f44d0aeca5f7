-- "Parameters: type (2 bytes), length L (2 bytes), L bytes, padding."
use Rattle.std.specs.Prelude.{ℕ, ◌+◌, ◌-◌, ◌%◌, Bool, cond, ◌||◌, List, ltb, leb, length, Option, None, Some, Result, Ok, Err}
use Rattle.refusal.specs.declared.Refusal.{Refusal}
use Rattle.refusal.specs.Table.{refusal}
use Rattle.octets.specs.Numbers.{number_at}
use Rattle.parameter.specs.Types.{wrong_length}
use Rattle.parameter.specs.declared.Parameter.{Parameter}

-- "One takes 11 + L - (L + 3) mod 8 bytes in all."
abbrev pub takes : ℕ → ℕ
takes len = 11 + len - (len + 3) % 8

-- the parameter at `at`: its type, its length L, where its L bytes start, and where the next parameter starts
abbrev pub parameter_at : List ℕ → ℕ → Parameter
parameter_at s at = record {
  kind = number_at s at 2;
  len = number_at s (at + 2) 2;
  body = at + 4;
  next = at + takes (number_at s (at + 2) 2);
}

-- "parameter past the end"
abbrev pub past_end : List ℕ → Parameter → Bool
past_end s p = ltb (length s) p.next

-- "wrong L for 65, 385, 449"
abbrev pub wrong : Parameter → Bool
wrong p = wrong_length p.kind p.len

-- what refusal 3 refuses of a parameter by itself
abbrev pub broken : List ℕ → Parameter → Bool
broken s p = past_end s p || wrong p

-- one step of the walk: at the packet's end or past it the end; refusal 3 by the parameter at `at`; else the parameter
abbrev pub step_at : List ℕ → ℕ → Result (Option Parameter) Refusal
step_at s at =
    cond (leb (length s) at) (Ok None)
    (cond (broken s (parameter_at s at)) (Err (refusal 3)) (Ok (Some (parameter_at s at))))
