-- What one walk over a packet's parameters finds: refusal 3, or how often each type that the later rules read occurs, and where.
use Rattle.std.specs.Prelude.{ℕ, Bool, not, cond, ◌||◌, List, [], ◌∷◌, eqb, Result, Ok, Err}
use Rattle.refusal.specs.declared.Refusal.{Refusal}
use Rattle.refusal.specs.Table.{refusal}
use Rattle.std.specs.List.{list_any}
use Rattle.frame.specs.Header.{header_holds}
use Rattle.parameter.specs.Types.{esp_info, locator_set, seq, ack, echo_request_signed, echo_response_signed, refused_type}
use Rattle.frame.specs.Parameters.{parameters, ill_formed}
use Rattle.parameter.specs.declared.Parameter.{Parameter}
use Rattle.frame.specs.declared.Occurrence.{Occurrence}
use Rattle.frame.specs.declared.Survey.{Survey}

-- a type that does not occur
abbrev pub never : Occurrence
never = record { times = 0; body = 0; len = 0 }

-- one more parameter of the type: the first is kept with its place and length, and more than one count as 2
abbrev pub again : Occurrence → (body len : ℕ) → Occurrence
again seen body len =
    cond (eqb seen.times 0) (record { times = 1; body = body; len = len })
    (record { times = 2; body = seen.body; len = seen.len })

-- one more parameter, of any type
abbrev pub counted : (type : ℕ) → Occurrence → (kind body len : ℕ) → Occurrence
counted type seen kind body len = cond (eqb kind type) (again seen body len) seen

-- how often a type occurs among the parameters ps, after what was seen before them
unfoldable pub occurs : (type : ℕ) → Occurrence → List Parameter → Occurrence
occurs type seen [] = seen
occurs type seen (p ∷ ps) = occurs type (counted type seen p.kind p.body p.len) ps

-- "odd type not known"
abbrev pub refused : Parameter → Bool
refused p = refused_type p.kind

-- refusal 3: "under 40 bytes, header rule broken, parameter past the end, falling type, wrong L for 65, 385, 449".
-- It judges all parameters
abbrev pub refusal3 : List ℕ → Bool
refusal3 s = not (header_holds s) || ill_formed s 0 (parameters s)

-- refusal 4: "odd type not known"
abbrev pub refusal4 : List ℕ → Bool
refusal4 s = list_any refused (parameters s)

-- the survey of a packet's parameters: what occurs how often, and whether refusal 4 refuses a type
abbrev pub survey_of : List ℕ → Survey
survey_of s = record {
  unknown = refusal4 s;
  esp = occurs esp_info never (parameters s);
  set = occurs locator_set never (parameters s);
  seq = occurs seq never (parameters s);
  ack = occurs ack never (parameters s);
  request = occurs echo_request_signed never (parameters s);
  echo = occurs echo_response_signed never (parameters s);
}

-- what the walk answers
unfoldable pub walk_of : List ℕ → Result Survey Refusal
walk_of s = cond (refusal3 s) (Err (refusal 3)) (Ok (survey_of s))
