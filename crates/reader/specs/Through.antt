-- What a reader answers when it is stepped to its end. `read_through`, in proofs/, is the law: `answers` of a new reader is `answers_of` its packet.
use Rattle.std.specs.Prelude.{ℕ, zero, suc, cond, List, [], ◌∷◌, ◌++◌, map, None, Some, Ok, Err}
use Rattle.refusal.specs.Table.{refusal}
use Rattle.parameter.specs.declared.Parameter.{Parameter}
use Rattle.frame.specs.Parameters.{parameters, ill_formed, ill_after}
use Rattle.reader.specs.declared.ParameterReader.{ParameterReader}
use Rattle.reader.specs.Readers.{Step, found, stepped_of}

-- more answers follow a parameter, and nothing else
abbrev pub after_found : Step → List Step → List Step
after_found (Ok (Some p)) more = more
after_found (Ok None) more = []
after_found (Err why) more = []

-- the answers of a reader that is stepped until one of them is no parameter: once, and at most `steps` times more
unfoldable pub answers : (steps : ℕ) → ParameterReader → List Step
answers zero r = (stepped_of r).step ∷ []
answers (suc steps) r = (stepped_of r).step ∷ after_found (stepped_of r).step (answers steps (stepped_of r).reader)

-- the reader after so many steps
unfoldable pub after : (steps : ℕ) → ParameterReader → ParameterReader
after zero r = r
after (suc steps) r = after steps (stepped_of r).reader

-- the parameters before the first that refusal 3 refuses, where they follow one of type `last`
unfoldable pub well_formed : List ℕ → (last : ℕ) → List Parameter → List Parameter
well_formed s last [] = []
well_formed s last (p ∷ ps) = cond (ill_after s last p) [] (p ∷ well_formed s p.kind ps)

-- what a reader has to answer to the parameters ps, which follow one of type `last`: each of them, in order, and the end; or those before the first
-- that refusal 3 refuses, and that refusal
unfoldable pub answers_to : List ℕ → (last : ℕ) → List Parameter → List Step
answers_to s last ps =
    cond (ill_formed s last ps) (map found (well_formed s last ps) ++ (Err (refusal 3) ∷ []))
    (map found ps ++ (Ok None ∷ []))

-- to a packet's
abbrev pub answers_of : List ℕ → List Step
answers_of s = answers_to s 0 (parameters s)
