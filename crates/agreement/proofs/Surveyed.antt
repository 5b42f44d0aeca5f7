-- What is read of parameters that stand behind a header, with those after them that may follow: the survey is that of these alone. Assumes nothing.
use Prim.Native.Nat.{ℕ, ◌^◌, ◌<◌, ◌≤◌}
use mathlib.Core.Path.{◌≡◌, refl, sym, ap, ◌∙◌}
use mathlib.Core.Bool.{true, false}
use mathlib.Core.List.{List, ◌++◌}
use lib.ListN.{length}
use Rattle.parameter.specs.Types.{esp_info, locator_set, seq, ack, echo_request_signed, echo_response_signed, refused_type, wrong_length}
use Rattle.frame.specs.Header.{header_size, header_holds}
use Rattle.frame.specs.Parameters.{parameters}
use Rattle.frame.specs.declared.Survey.{Survey}
use Rattle.frame.specs.Survey.{never, occurs, survey_of}
use Rattle.packet.specs.Readings.{kind_of, reading_of}
use Rattle.packet.proofs.Choices.{read_known}
use Rattle.round_trip.specs.Wire.{WireParameter, wires_bytes, Tail}
use Rattle.round_trip.proofs.Wire.{written, written_whole}
use Rattle.round_trip.proofs.Runs.{placed}
use Rattle.round_trip.proofs.Formed.{Passes, Formed, Other, formed_parameters, not_refused3, not_refused4, tail_stepped}

-- a parameter that we write may follow one of type `last` where its type does not fall, may be received and has a right length
pub passes : (last kind : ℕ) (body : List ℕ) → kind < 2 ^ 16 → length body < 2 ^ 16 → last ≤ kind → wrong_length kind (length body) ≡ false
    → refused_type kind ≡ false → Passes last (written kind body)
passes last kind body t l after right known = record { whole = written_whole kind body t l; after = after; right = right; known = known }

-- the survey of parameters behind a header
abbrev pub seen_of : List WireParameter → Survey
seen_of ps = record {
  unknown = false;
  esp = occurs esp_info never (placed header_size ps);
  set = occurs locator_set never (placed header_size ps);
  seq = occurs seq never (placed header_size ps);
  ack = occurs ack never (placed header_size ps);
  request = occurs echo_request_signed never (placed header_size ps);
  echo = occurs echo_response_signed never (placed header_size ps);
}

module _ (header : List ℕ) (ps tail : List WireParameter) (last : ℕ) (long : length header ≡ header_size) (follow : Tail last tail)
    (formed : Formed 0 (ps ++ tail)) where
  abbrev packet : List ℕ
  packet = header ++ wires_bytes (ps ++ tail)

  found : (type : ℕ) → Other type → occurs type never (parameters packet) ≡ occurs type never (placed header_size ps)
  found type o = ap (occurs type never) (formed_parameters header (ps ++ tail) long formed) ∙ tail_stepped type never header_size last ps tail o follow

  survey_read : survey_of packet ≡ seen_of ps
  survey_read =
      rw (
        not_refused4 header (ps ++ tail) long formed,
        found esp_info (refl, refl, refl),
        found locator_set (refl, refl, refl),
        found seq (refl, refl, refl),
        found ack (refl, refl, refl),
        found echo_request_signed (refl, refl, refl),
        found echo_response_signed (refl, refl, refl),
      )

  pub kind_read : header_holds packet ≡ true → reading_of packet ≡ kind_of packet (seen_of ps)
  kind_read rule = sym (read_known packet (not_refused3 header (ps ++ tail) long formed rule, sym survey_read) refl)
