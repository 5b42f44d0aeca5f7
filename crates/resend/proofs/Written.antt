-- The checks that are sent again are written one after another. Assumes nothing.
use Prim.Native.Nat.{ℕ, ◌+◌, ◌*◌, ◌≤◌, ◌<◌}
use mathlib.Core.Path.{◌≡◌, refl, sym, ap, ◌∙◌}
use mathlib.Core.Bool.{Bool, true, false, cond}
use mathlib.Core.List.{List, [], ◌∷◌, ◌++◌, map, append_assoc, append-nil}
use lib.ListN.{length, get_or, set, take, drop, length-append, drop_of_length-le}
use lib.Seq.{drop-cons}
use native.Mathlib.Numerals.{add-one}
use native.Mathlib.Omega.{arith}
use Rattle.check_times.specs.Times.{is_due}
use Rattle.parameter.specs.Types.{seq}
use Rattle.writer.specs.Writes.{written_at}
use Rattle.writer.proofs.Writes.{written_none, written_more, written_first, parts_written}
use Rattle.reply_form.specs.Replies.{resend_size, esp_info_bytes, seq_bytes, echo_request_bytes, resend_bytes, overwritten}
use Rattle.reply_form.proofs.Sizes.{number_length, esp_info_length_lem, resend_length}
use Rattle.slot.specs.declared.Check.{Check}
use Rattle.slot.specs.declared.Status.{Status}
use Rattle.slot.specs.declared.Status.TheVariants.{Unverified, Active, Deprecated}
use Rattle.slot.specs.declared.Locator.{Locator}
use Rattle.slot.specs.declared.Slot.{Slot}
use Rattle.slot.specs.Found.{with_status, on_held}
use Rattle.slot.specs.Checks.{resent, resend_status, resend_locator, resend_slot}
use Rattle.resend.specs.Resends.{status_bytes, held_bytes, slot_bytes, resent_bytes}
use Rattle.std.specs.List.{flat_map}
use Rattle.std.proofs.lemmas.List.{take_more}
use Rattle.std.proofs.lemmas.List.Edits.{map_over_more}
use Rattle.std.proofs.lemmas.Grind.{flat_map-append, common_steps}
use Rattle.std.specs.Prelude.{None, Option, Some}

-- ---- one check
pub resend_written : (inbound id nonce at : ℕ) (b b1 b2 b3 : List ℕ) → at + resend_size ≤ length b → b1 ≡ written_at at (esp_info_bytes inbound) b
    → b2 ≡ written_at (at + 16) (seq_bytes id) b1 → b3 ≡ written_at (at + 24) (echo_request_bytes nonce) b2 → b3 ≡ written_at at (resend_bytes inbound id nonce) b
resend_written inbound id nonce at b b1 b2 b3 h p1 p2 p3 =
    let size = resend_length inbound id nonce in
    parts_written at (esp_info_bytes inbound) (seq_bytes id ∷ echo_request_bytes nonce ∷ []) (resend_bytes inbound id nonce) b b3
    (rw (append-nil (echo_request_bytes nonce)))
    (omega arith)
    (p3 ∙ rw (p2, p1, esp_info_length_lem 0 inbound inbound, number_length seq id))

-- ---- one slot
-- what is owed for a slot: the size, and the buffer after it
abbrev pub Owed : (inbound time at : ℕ) → Slot → (b : List ℕ) → (size : ℕ) → (after : List ℕ) → Type 0
Owed inbound time at s b size after = (size ≡ length (slot_bytes inbound time s)) × (after ≡ written_at at (slot_bytes inbound time s) b)

-- ---- all slots
module _ (inbound time : ℕ) where
  size_most : (s : Slot) → length (slot_bytes inbound time s) ≤ resend_size
  size_most s = held s.holding
    where
      check : (k : Check) (b : Bool) → length (cond b (resend_bytes inbound k.id k.nonce) []) ≤ resend_size
      check k true = let l = resend_length inbound k.id k.nonce in omega arith
      check k false = omega arith

      status : (t : Status) → length (status_bytes inbound time t) ≤ resend_size
      status (Unverified k) = check k (is_due k.issued k.resends time)
      status Active = omega arith
      status Deprecated = omega arith

      held : (h : Option Locator) → length (held_bytes inbound time h) ≤ resend_size
      held None = omega arith
      held (Some l) = status l.status

  -- the resends of so many slots fit: eight take at most 320 bytes
  pub resent_most : (ss : List Slot) → length (resent_bytes inbound time ss) ≤ length ss * resend_size
  unfolding resent_bytes
  resent_most [] = omega arith
  resent_most (s ∷ ss) = omega (arith, length-append (slot_bytes inbound time s) (resent_bytes inbound time ss), size_most s, resent_most ss)

  -- ---- a turn of the loop over the slots: x is slot i after it, y what was written for it
  module _ (xs ys : List Slot) (i : ℕ) (d : Slot) (h : i < length xs) (p : ys ≡ map (resend_slot time) (take i xs) ++ drop i xs) where
    -- the slots before it have their new counts
    pub turn_slots : (x : Slot) → x ≡ resend_slot time (get_or ys i d) → set ys i x ≡ map (resend_slot time) (take (i + 1) xs) ++ drop (i + 1) xs
    turn_slots x q = rw q (map_over_more (resend_slot time) xs ys i (get_or ys i d) h p (grind (arith, common_steps)))

    same : get_or ys i d ≡ get_or xs i d
    same = grind (arith, common_steps)

    -- its bytes stand after those of the slots before it
    pub turn_bytes : resent_bytes inbound time (take (i + 1) xs) ≡ resent_bytes inbound time (take i xs) ++ slot_bytes inbound time (get_or ys i d)
    unfolding resent_bytes
    turn_bytes = rw same
        (ap (flat_map (slot_bytes inbound time)) (take_more xs i d h)
        ∙ flat_map-append (slot_bytes inbound time) (take i xs) (get_or xs i d ∷ [])
        ∙ ap (λ (l : List ℕ). resent_bytes inbound time (take i xs) ++ l) (append-nil (slot_bytes inbound time (get_or xs i d))))

  -- ---- a slot for which nothing is written is as it was. No code cites this law and those below
  quiet : (s : Slot) → length (slot_bytes inbound time s) ≡ 0 → s ≡ resend_slot time s
  quiet s p = λ i. record { holding = held s.holding p i }
    where
      check : (k : Check) (b : Bool) → length (cond b (resend_bytes inbound k.id k.nonce) []) ≡ 0 → Unverified k ≡ cond b (Unverified (resent time k)) (Unverified k)
      check k true q = absurd (omega (arith, resend_length inbound k.id k.nonce))
      check k false q = refl

      status : (t : Status) → length (status_bytes inbound time t) ≡ 0 → t ≡ resend_status time t
      status (Unverified k) q = check k (is_due k.issued k.resends time) q
      status Active q = refl
      status Deprecated q = refl

      held : (h : Option Locator) → length (held_bytes inbound time h) ≡ 0 → h ≡ on_held (resend_locator time) h
      held None q = refl
      held (Some l) q = λ i. Some (with_status l (status l.status q i))

  pub quiet_slot : (s : Slot) (size : ℕ) → size ≡ length (slot_bytes inbound time s) → size ≡ 0 → s ≡ resend_slot time s
  quiet_slot s size p e = quiet s (sym p ∙ e)

  -- ---- all slots by those that are left
  resent_cons : (s : Slot) (ss : List Slot) → resent_bytes inbound time (s ∷ ss) ≡ slot_bytes inbound time s ++ resent_bytes inbound time ss
  unfolding resent_bytes
  resent_cons s ss = refl

  resent_nil : resent_bytes inbound time [] ≡ []
  unfolding resent_bytes
  resent_nil = refl

  -- after so many slots: what is written, what it comes to with the slots that are left, and the place after it
  pub record Sent (n : ℕ) (xs : List Slot) (at : ℕ) (b b1 : List ℕ) : Type 0 where
    pub done : List ℕ
    pub whole : done ++ resent_bytes inbound time (drop n xs) ≡ resent_bytes inbound time xs
    pub size : at ≡ length done
    pub few : at ≤ n * resend_size
    pub buffer : b1 ≡ written_at 0 done b

  pub sent_none : (xs : List Slot) (b : List ℕ) → Sent 0 xs 0 b b
  sent_none xs b = record { done = []; whole = refl; size = refl; few = omega arith; buffer = written_none 0 b }

  pub sent_more : {n : ℕ} {xs : List Slot} {at : ℕ} {b b1 : List ℕ} (s d : Slot) (next size : ℕ) (b2 : List ℕ) → Sent n xs at b b1 → n < length xs →
      (n + 1) * resend_size ≤ length b → s ≡ get_or xs n d → Owed inbound time at s b1 size b2 → next ≡ at + size → Sent (n + 1) xs next b b2
  sent_more {n} {xs} {at} {b} {b1} s d next size b2 t h room e owed f =
      let here = slot_bytes inbound time s in
      let rest = resent_bytes inbound time (drop (n + 1) xs) in
      let most = size_most s in
      let sized = owed.0 in
      let reached = t.size in
      let few = t.few in
      record {
        done = t.done ++ here;
        whole =
            append_assoc t.done here rest
            ∙ ap (λ (l : List ℕ). t.done ++ l)
            (ap (λ (x : Slot). slot_bytes inbound time x ++ rest) e ∙ sym (rw (drop-cons xs n d h, resent_cons, ← add-one n)))
            ∙ t.whole;
        size = omega (arith, length-append t.done here);
        few = omega arith;
        buffer = written_more 0 at t.done here b b1 b2 (omega arith) (omega arith) t.buffer owed.1;
      }

  pub sent_all : {n : ℕ} {xs : List Slot} {at : ℕ} {b b1 : List ℕ} → Sent n xs at b b1 → length xs ≤ n → n * resend_size ≤ length b →
      (at ≡ length (resent_bytes inbound time xs)) × (b1 ≡ overwritten (resent_bytes inbound time xs) b)
  sent_all {n} {xs} {at} {b} {b1} t h room =
      let all : t.done ≡ resent_bytes inbound time xs =
      sym (append-nil t.done) ∙ ap (λ (l : List ℕ). t.done ++ l) (sym (rw (drop_of_length-le xs {i = n} h, resent_nil))) ∙ t.whole in
      let size = t.size in
      let few = t.few in (
        t.size ∙ ap length all,
        t.buffer ∙ written_first t.done b (omega arith) ∙ ap (λ (l : List ℕ). overwritten l b) all,
      )
