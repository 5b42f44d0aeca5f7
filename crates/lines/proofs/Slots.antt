-- The lines of the slots, one by one. Assumes nothing.
use Rattle.std.proofs.Common.{◌≡◌, ℕ, suc, ◌+◌, ◌≤◌, ◌<◌, List, [], ◌∷◌, ◌++◌, length, take, get_or, sym, append-nil, append_assoc, arith}
use lib.Seq.{take-suc, length-take-le}
use Rattle.slot.specs.declared.Slot.{Slot}
use Rattle.lines.specs.State.{slot_text, slots_text}

-- one slot more
slots_more : (n : ℕ) (x : List Slot) (slot : Slot) → slots_text n (x ++ (slot ∷ [])) ≡ slots_text n x ++ slot_text (n + length x) slot
unfolding slots_text
slots_more n [] slot = let e : n + 0 ≡ n = omega arith in rw e (append-nil (slot_text n slot))
slots_more n (s ∷ x) slot =
    let e : suc n + length x ≡ n + suc (length x) = omega arith in
    rw (slots_more (suc n) x slot, e) (sym (append_assoc (slot_text n s) (slots_text (suc n) x) (slot_text (n + suc (length x)) slot)))

pub slots_next : (n : ℕ) (slots : List Slot) (blank : Slot) → n < length slots
    → slots_text 0 (take n slots) ++ slot_text n (get_or slots n blank) ≡ slots_text 0 (take (n + 1) slots)
slots_next n slots blank h =
    let one : n + 1 ≡ suc n = omega arith in
    let few : n ≤ length slots = omega arith in
    let size : 0 + length (take n slots) ≡ n = omega (arith, length-take-le n slots few) in
    rw (one, take-suc slots n blank h, slots_more 0 (take n slots) (get_or slots n blank), size)
