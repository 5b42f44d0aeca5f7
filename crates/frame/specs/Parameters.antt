-- The parameters of a packet, in order, and refusal 3 by them.
use Rattle.std.specs.Prelude.{ℕ, Bool, false, ◌||◌, List, [], ◌∷◌, ltb, length}
use Rattle.octets.specs.Records.{records}
use Rattle.std.specs.List.{list_any}
use Rattle.parameter.specs.Parameters.{parameter_at, past_end, wrong, broken}
use Rattle.parameter.specs.declared.Parameter.{Parameter}
use Rattle.frame.specs.Header.{header_size}

-- the packet's parameters in order, from the header's end. The last may run past the packet's end
abbrev pub parameters : List ℕ → List Parameter
parameters s = records (parameter_at s) (λ (p : Parameter). p.next) (length s) (length s) header_size

-- "Types never fall along the packet": the type of p is below `last`, the one before it
abbrev pub falls_below : (last : ℕ) → Parameter → Bool
falls_below last p = ltb p.kind last

-- some type is below the one before it, the first below `last`
unfoldable pub falls : (last : ℕ) → List Parameter → Bool
falls last [] = false
falls last (p ∷ ps) = falls_below last p || falls p.kind ps

-- refusal 3 by the parameters ps, which follow one of type `last`
abbrev pub ill_formed : List ℕ → (last : ℕ) → List Parameter → Bool
ill_formed s last ps = list_any (past_end s) ps || (falls last ps || list_any wrong ps)

-- refusal 3 by one parameter, which follows one of type `last`
abbrev pub ill_after : List ℕ → (last : ℕ) → Parameter → Bool
ill_after s last p = broken s p || falls_below last p
