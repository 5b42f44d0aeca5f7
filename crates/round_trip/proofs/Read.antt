-- "Reading what we wrote gives back the list." Assumes nothing.
use Prim.Native.Nat.{ℕ, ◌+◌, ◌^◌, ◌<◌, ◌≤◌}
use mathlib.Core.Path.{◌≡◌, refl, sym, ap, ◌∙◌}
use mathlib.Core.Bool.{true, false}
use mathlib.Core.List.{List, [], ◌∷◌, ◌++◌, append_assoc}
use lib.ListN.{length, take, length-append}
use native.Mathlib.Omega.{arith}
use Rattle.octets.specs.Numbers.{number_at}
use Rattle.octets.specs.Written.{bytes_of}
use Rattle.octets.proofs.Sizes.{bytes_length}
use Rattle.parameter.specs.Types.{esp_info, locator_set, seq, ack, echo_request_signed, echo_response_signed, refused_type, wrong_length}
use Rattle.parameter.specs.Parameters.{takes}
use Rattle.frame.specs.Header.{header_size, header_holds}
use Rattle.frame.specs.Parameters.{parameters}
use Rattle.frame.specs.declared.Survey.{Survey}
use Rattle.frame.specs.Survey.{never, occurs, survey_of}
use Rattle.locator_set.specs.Sets.{refusal6, accepted_set}
use Rattle.packet.specs.declared.EchoResponse.TheVariants.{Absent}
use Rattle.packet.specs.declared.Message.TheVariants.{Move}
use Rattle.packet.specs.declared.Message.{Message}
use Rattle.refusal.specs.declared.Refusal.{Refusal}
use Rattle.std.specs.Prelude.{Ok, Result}
use Rattle.packet.specs.Kinds.{is_move}
use Rattle.packet.specs.Readings.{fields_of, set_bytes, move_of, reading_of}
use Rattle.packet.proofs.Choices.{read_known, kind_move}
use Rattle.association.specs.declared.Association.{Association}
use Rattle.announcement.specs.declared.OwnLocator.{OwnLocator}
use Rattle.announcement.specs.Written.{set_body, announcement_bytes}
use Rattle.announcement.specs.Announcements.{Announced}
use Rattle.announcement.proofs.Sizes.{set_bound}
use Rattle.announcement.proofs.ReadBack.{places_length}
use Rattle.announcement.proofs.Judged.{accepted_listed}
use Rattle.round_trip.specs.Wire.{WireParameter, wires_bytes, Tail}
use Rattle.round_trip.specs.Read.{sent_packet, GivesBackTheList}
use Rattle.round_trip.proofs.Accepted.{is_passed, passed_answer, few_entries, id_fits}
use Rattle.round_trip.proofs.Wire.{written, written_bytes, written_whole, field_read, body_read}
use Rattle.round_trip.proofs.Runs.{EachStands, placed}
use Rattle.round_trip.proofs.Formed.{Formed, Other, formed_stands, formed_parameters, not_refused3, not_refused4, tail_formed, tail_stepped}

-- ---- the three parameters, whatever the list
-- the L bytes of ESP_INFO
abbrev esp_body : (keymat old new : ℕ) → List ℕ
esp_body keymat old new = bytes_of 2 0 ++ (bytes_of 2 keymat ++ (bytes_of 4 old ++ bytes_of 4 new))

esp_size : (keymat old new : ℕ) → length (esp_body keymat old new) ≡ 12
esp_size keymat old new = simp (length-append, bytes_length)

module _ (keymat old new id : ℕ) (set : List ℕ) where
  -- ESP_INFO, LOCATOR_SET and SEQ
  abbrev three : List WireParameter
  three = written esp_info (esp_body keymat old new) ∷ written locator_set set ∷ written seq (bytes_of 4 id) ∷ []

  -- where they stand behind a header
  abbrev move_survey : Survey
  move_survey = record {
    unknown = false;
    esp = record { times = 1; body = 44; len = 12 };
    set = record { times = 1; body = 60; len = length set };
    seq = record { times = 1; body = 56 + takes (length set) + 4; len = 4 };
    ack = never;
    request = never;
    echo = never;
  }

  three_found : (occurs esp_info never (placed header_size three) ≡ move_survey.esp)
      × (occurs locator_set never (placed header_size three) ≡ move_survey.set)
      × (occurs seq never (placed header_size three) ≡ move_survey.seq)
      × (occurs ack never (placed header_size three) ≡ never)
      × (occurs echo_request_signed never (placed header_size three) ≡ never)
      × (occurs echo_response_signed never (placed header_size three) ≡ never)
  unfolding placed occurs bytes_of
  three_found = (refl, refl, refl, refl, refl, refl)

  module _ (small : length set < 2 ^ 16) (tail : List WireParameter) (follow : Tail seq tail) where
    move_formed : Formed 0 (three ++ tail)
    unfolding Formed wrong_length refused_type
    move_formed =
        let first = esp_size keymat old new in
        let last = bytes_length 4 id in (
          record { whole = written_whole esp_info (esp_body keymat old new) (omega arith) (omega arith); after = omega arith; right = rw first; known = refl },
          (
            record { whole = written_whole locator_set set (omega arith) small; after = omega arith; right = refl; known = refl },
            (
              record { whole = written_whole seq (bytes_of 4 id) (omega arith) (omega arith); after = omega arith; right = rw last; known = refl },
              tail_formed seq tail follow,
            ),
          ),
        )

    -- the packet that they make behind a header
    module _ (header : List ℕ) (long : length header ≡ header_size) where
      abbrev packet : List ℕ
      packet = header ++ wires_bytes (three ++ tail)

      stand : EachStands packet header_size (three ++ tail)
      stand = formed_stands header (three ++ tail) long move_formed

      found : (type : ℕ) → Other type → occurs type never (parameters packet) ≡ occurs type never (placed header_size three)
      found type o =
          ap (occurs type never) (formed_parameters header (three ++ tail) long move_formed)
          ∙ tail_stepped type never header_size seq three tail o follow

      survey_read : survey_of packet ≡ move_survey
      survey_read =
          let q = three_found in
          rw (
            not_refused4 header (three ++ tail) long move_formed,
            found esp_info (refl, refl, refl) ∙ q.0,
            found locator_set (refl, refl, refl) ∙ q.1,
            found seq (refl, refl, refl) ∙ q.2,
            found ack (refl, refl, refl) ∙ q.3,
            found echo_request_signed (refl, refl, refl) ∙ q.4,
            found echo_response_signed (refl, refl, refl) ∙ q.5,
          )

      set_read : set_bytes packet move_survey ≡ set
      unfolding EachStands bytes_of
      set_read = body_read packet 56 (written locator_set set) stand.1.0

      -- a number of ESP_INFO, after what stands before it
      esp_field : (w n : ℕ) (front back : List ℕ) → esp_body keymat old new ≡ front ++ (bytes_of w n ++ back) → n < 256 ^ w
          → number_at packet (44 + length front) w ≡ n
      unfolding EachStands
      esp_field w n front back e h = field_read packet header_size (written esp_info (esp_body keymat old new)) stand.0 w n front back e h

      id_read : id < 2 ^ 32 → number_at packet (56 + takes (length set) + 4) 4 ≡ id
      unfolding EachStands bytes_of
      id_read h =
          let at : ℕ = 56 + takes (length set) in
          let z : at + 4 + 0 ≡ at + 4 = omega arith in
          rw z at (field_read packet at (written seq (bytes_of 4 id)) stand.1.1.0 4 id [] [] refl h)

      fields_read : keymat < 2 ^ 16 → old < 2 ^ 32 → new < 2 ^ 32 → id < 2 ^ 32
          → fields_of packet move_survey ≡ record { keymat = keymat; old = old; new = new; id = id; echo = Absent }
      unfolding bytes_of
      fields_read k o n i =
          rw (
            esp_field 2 keymat (bytes_of 2 0) (bytes_of 4 old ++ bytes_of 4 new) refl k,
            esp_field 4 old (bytes_of 2 0 ++ bytes_of 2 keymat) (bytes_of 4 new) refl o,
            esp_field 4 new (bytes_of 2 0 ++ (bytes_of 2 keymat ++ bytes_of 4 old)) [] refl n,
            id_read i,
          )

      -- the packet reads as a Move of these numbers and this set
      abbrev the_move : Result Message Refusal
      the_move = Ok (Move (record { keymat = keymat; old = old; new = new; id = id; echo = Absent }) (accepted_set set))

      is_move_lem : is_move move_survey ≡ true
      unfolding is_move
      is_move_lem = refl

      module _ (k : keymat < 2 ^ 16) (o : old < 2 ^ 32) (n : new < 2 ^ 32) (i : id < 2 ^ 32) (good : refusal6 set ≡ false) where
        as_move : move_of packet move_survey ≡ the_move
        as_move = rw (set_read, good, fields_read k o n i)

        move_read : header_holds packet ≡ true → reading_of packet ≡ the_move
        move_read rule =
            sym (read_known packet (not_refused3 header (three ++ tail) long move_formed rule, sym survey_read) refl)
            ∙ sym (kind_move packet move_survey is_move_lem)
            ∙ as_move

-- ---- an accepted announcement
-- the written bytes are the three parameters
written_three : (a : Association) (es : List OwnLocator) (inbound keymat : ℕ) (tail : List WireParameter)
    → announcement_bytes a es inbound keymat ++ wires_bytes tail ≡ wires_bytes (three keymat a.inbound inbound a.next (set_body inbound es) ++ tail)
unfolding announcement_bytes wires_bytes
written_three a es inbound keymat tail = simp (written_bytes, append_assoc)

-- "Reading what we wrote gives back the list."
pub reading_what_we_wrote : GivesBackTheList
reading_what_we_wrote a list count inbound keymat room header tail h =
    let es : List OwnLocator = take count list in
    let set : List ℕ = set_body inbound es in
    let q = is_passed a list count inbound keymat room h.accepted in
    let bytes : sent_packet a list count inbound keymat room header tail ≡ header ++ wires_bytes (three keymat a.inbound inbound a.next set ++ tail) =
    ap (λ (x : Announced). header ++ (x.bytes ++ wires_bytes tail)) (passed_answer a list count inbound keymat room q)
    ∙ ap (λ (l : List ℕ). header ++ l) (written_three a es inbound keymat tail) in
    let few : length set ≤ 224 = set_bound inbound es (few_entries a list count inbound keymat room q) in
    let rule = sym (ap header_holds bytes) ∙ h.rule in
    let read = move_read keymat a.inbound inbound a.next set (omega arith) tail h.follow header h.long h.index h.old h.new
    (id_fits a list count inbound keymat room q) q.well rule in
    ap reading_of bytes ∙ read ∙ rw (places_length inbound es, accepted_listed inbound es h.sized h.new q.well)
