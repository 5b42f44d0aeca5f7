-- "Writing what was read gives the same bytes." Assumes nothing.
use Prim.Native.Nat.{ℕ, zero, suc, ◌+◌, ◌-◌, ◌≤◌}
use mathlib.Core.Path.{◌≡◌, refl, sym, ap, ◌∙◌}
use mathlib.Core.List.{List, [], ◌∷◌, ◌++◌, map}
use lib.Dec.{ltb, eqb}
use lib.ListN.{length, take, drop}
use native.Mathlib.Omega.{arith}
use borrow.Author.Tests.{le-ltb, ne_eqb}
use Rattle.boolean.proofs.Laws.{or_false_left, or_false_right}
use Rattle.octets.specs.Numbers.{number_at}
use Rattle.std.specs.List.{list_any}
use Rattle.octets.specs.Written.{bytes_of, Octets}
use Rattle.octets.proofs.ReadBack.{number_written}
use Rattle.parameter.specs.Types.{esp_info, locator_set, seq}
use Rattle.parameter.specs.Parameters.{takes}
use Rattle.parameter.specs.Written.{head_size, parameter_bytes}
use Rattle.frame.specs.declared.Occurrence.{Occurrence}
use Rattle.frame.specs.declared.Survey.{Survey}
use Rattle.frame.specs.Parameters.{parameters}
use Rattle.frame.specs.Survey.{never, occurs, survey_of}
use Rattle.locator.specs.declared.ListedLocator.{ListedLocator}
use Rattle.locator.specs.Locators.{places, illegal_at}
use Rattle.locator_set.specs.Sets.{set_limit, listed_of}
use Rattle.locator_set.proofs.Listing.{count_most, count_least, listed_first}
use Rattle.packet.specs.declared.MoveFields.{MoveFields}
use Rattle.packet.specs.Readings.{set_bytes}
use Rattle.locator_set.specs.declared.LocatorSet.{LocatorSet}
use Rattle.packet.proofs.Fields.{move_once, move_lengths, move_fits}
use Rattle.association.specs.declared.Association.{Association}
use Rattle.association.specs.Form.{id_limit}
use Rattle.reply_form.specs.Replies.{esp_info_with, seq_bytes}
use Rattle.announcement.specs.declared.OwnLocator.{OwnLocator}
use Rattle.announcement.specs.Written.{set_body, locator_set_bytes, announcement_bytes}
use Rattle.announcement.specs.Announcements.{announced, after_announcement}
use Rattle.announcement.proofs.Ends.{Passed}
use Rattle.round_trip.specs.Each.{Each}
use Rattle.round_trip.specs.Written.{whole_of, three_of, padding_of, own_of, own_list, announced_again, Received, written_again, GivesTheSameBytes}
use Rattle.round_trip.proofs.Accepted.{passed_answer}
use Rattle.round_trip.proofs.Moves.{ReadAs, read_as}
use Rattle.round_trip.proofs.Parts.{octets_part, number_small, number_first, Held, first_held, whole_written}
use Rattle.round_trip.proofs.Entries.{set_again}
use Rattle.std.specs.Prelude.{Ok}

-- the first so many of a list that is mapped
take_map : (n : ℕ) (ls : List ListedLocator) → take n (map own_of ls) ≡ map own_of (take n ls)
take_map zero ls = refl
take_map (suc n) [] = refl
take_map (suc n) (l ∷ ls) = ap (λ (es : List OwnLocator). own_of l ∷ es) (take_map n ls)

-- the L bytes of ESP_INFO by its numbers
esp_parts : (s : List ℕ) (at : ℕ) → Octets s → at + 12 ≤ length s
    → take 12 (drop at s)
    ≡ bytes_of 2 (number_at s at 2) ++ (bytes_of 2 (number_at s (at + 2) 2) ++ (bytes_of 4 (number_at s (at + 4) 4) ++ bytes_of 4 (number_at s (at + 8) 4)))
esp_parts s at o h =
    let four : at + 2 + 2 ≡ at + 4 = omega arith in
    let eight : at + 4 + 4 ≡ at + 8 = omega arith in
    number_first s at 2 10 o (omega arith)
    ∙ rw (number_first s (at + 2) 2 8 o (omega arith), four, number_first s (at + 4) 4 4 o (omega arith), eight, number_written s (at + 8) 4 o (omega arith))

-- ---- a packet that is read as a Move
module _ (s : List ℕ) (m : MoveFields) (found : LocatorSet) (o : Octets s) (q : ReadAs s m found) where
  abbrev seen : Survey
  seen = survey_of s

  abbrev set : List ℕ
  set = set_bytes s seen

  -- the packet holds each of the three
  held : (type : ℕ) → (occurs type never (parameters s)).times ≡ 1 → Held s type (occurs type never (parameters s))
  held type e = first_held s type q.unrefused3 (λ z. omega arith)

  three_held : Held s esp_info seen.esp × Held s locator_set seen.set × Held s seq seen.seq
  three_held = let once = move_once seen q.is_move_lem in (held esp_info once.0, held locator_set once.1, held seq once.2)

  -- ESP_INFO and SEQ have no padding
  unpadded : (n : ℕ) (x : Occurrence) → takes n ≡ head_size + n → x.len ≡ n → Each (λ (byte : ℕ). byte ≡ 0) (padding_of s x)
  unfolding Each
  unpadded n x e l = let none : takes x.len - (head_size + x.len) ≡ 0 = rw l (omega arith) in rw none tt

  esp_again : number_at s seen.esp.body 2 ≡ 0 → whole_of s seen.esp ≡ esp_info_with m.keymat m.old m.new
  esp_again z =
      let long = (move_lengths s q.unrefused3 q.is_move_lem).0 in
      whole_written s esp_info seen.esp o three_held.0 (unpadded 12 seen.esp refl long)
      ∙ ap (parameter_bytes esp_info) (
      ap (λ (n : ℕ). take n (drop seen.esp.body s)) long
      ∙ esp_parts s seen.esp.body o (move_fits s q.unrefused3 q.is_move_lem).0
      ∙ rw (z, q.fields)
      )

  seq_again : whole_of s seen.seq ≡ seq_bytes m.id
  seq_again =
      let long = (move_lengths s q.unrefused3 q.is_move_lem).1 in
      whole_written s seq seen.seq o three_held.2 (unpadded 4 seen.seq refl long)
      ∙ ap (parameter_bytes seq) (
      ap (λ (n : ℕ). take n (drop seen.seq.body s)) long
      ∙ sym (number_written s seen.seq.body 4 o (move_fits s q.unrefused3 q.is_move_lem).1)
      ∙ rw q.fields
      )

  -- the list read is the set's
  count_read : found.count ≡ length (places set)
  count_read = ap (λ (x : LocatorSet). x.count) q.listed

  list_read : take found.count found.listed ≡ listed_of set
  list_read = rw q.listed (listed_first set q.unrefused6)

  own_read : take found.count (own_list found) ≡ map own_of (listed_of set)
  own_read = take_map found.count found.listed ∙ ap (map own_of) list_read

-- ---- announcing what was read
module _ (s : List ℕ) (m : MoveFields) (found : LocatorSet) (a : Association) (room : ℕ) (h : Received s m found a room) where
  q : ReadAs s m found
  q = read_as s m found h.move

  -- the list that is announced
  abbrev entries : List OwnLocator
  entries = map own_of (listed_of (set_bytes s (survey_of s)))

  set_same : set_bytes s (survey_of s) ≡ set_body m.new entries
  set_same =
      let set : List ℕ = set_bytes s (survey_of s) in
      let most = or_false_right (eqb (length set) 0) _ q.unrefused6 in
      let ill = or_false_right (ltb set_limit (length (places set))) _ most in
      set_again set (octets_part s (survey_of s).set.body (survey_of s).set.len h.octets) m.new
      (record {
        good = or_false_left (list_any (illegal_at set) (places set)) _ ill;
        free = h.locators_reserved;
        same = rw (list_read s m found h.octets q) at h.spis;
      })

  bytes_same : announcement_bytes a entries m.new m.keymat ≡ three_of s
  unfolding announcement_bytes
  bytes_same =
      let set : Occurrence = (survey_of s).set in
      let esp = esp_again s m found h.octets q h.esp_reserved in
      let set_bytes_lem : whole_of s set ≡ locator_set_bytes m.new entries =
      whole_written s locator_set set h.octets (three_held s m found h.octets q).1 h.padding ∙ ap (parameter_bytes locator_set) set_same in
      let seq = seq_again s m found h.octets q in
      rw (h.inbound, h.next, esp, set_bytes_lem, seq)

  accepted : Passed a (own_list found) found.count m.new m.keymat room
  accepted =
      let set : List ℕ = set_bytes s (survey_of s) in
      let count = count_read s m found h.octets q in
      let least = count_least set q.unrefused6 in
      let most = count_most set q.unrefused6 in
      let own = own_read s m found h.octets q in
      let id : m.id ≡ number_at s (survey_of s).seq.body 4 = ap (λ (x : MoveFields). x.id) q.fields in
      let small = number_small s (survey_of s).seq.body 4 h.octets in
      record {
        sound = h.unrefused0;
        few = rw (ne_eqb found.count 0 (λ z. omega arith)) (le-ltb set_limit found.count (omega arith));
        well = rw (own, ← set_same) q.unrefused6;
        usable = h.usable;
        id_left = ne_eqb a.next id_limit (λ z. omega (arith, h.next));
        room_left = rw (own, bytes_same) (le-ltb room (length (three_of s)) h.long_enough);
      }

  written_again_lem : announced_again m found a room ≡ written_again s m a
  written_again_lem =
      passed_answer a (own_list found) found.count m.new m.keymat room accepted
      ∙ ap (λ (es : List OwnLocator). announced a es m.new m.keymat) (own_read s m found h.octets q)
      ∙ ap (λ (l : List ℕ). record { outcome = (Ok tt); bytes = l; left = after_announcement a m.new }) bytes_same

-- "Writing what was read gives the same bytes."
pub writing_what_was_read : GivesTheSameBytes
writing_what_was_read = written_again_lem
