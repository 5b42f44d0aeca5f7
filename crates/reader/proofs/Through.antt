-- A new reader, stepped to its end, gives the packet's parameters in order, or refusal 3 where it holds by a parameter. Assumes nothing.
use mathlib.Core.Path.{◌≡◌, refl, ap, sym, ◌∙◌}
use mathlib.Core.Bool.{Bool, true, false, cond, ◌||◌}
use mathlib.Core.List.{List, [], ◌∷◌, ◌++◌, map}
use Prim.Native.Nat.{ℕ, zero, suc, ◌-◌, ◌<◌, ◌≤◌}
use native.Mathlib.Omega.{arith}
use lib.Dec.{leb}
use lib.ListN.{length}
use borrow.Author.Tests.{lt-leb, le-leb, leb-true, leb-false}
use denote.Ref.{Bor}
use Rattle.boolean.proofs.Laws.{apart}
use Rattle.std.specs.Prelude.{None, Ok, Err}
use Rattle.refusal.specs.Table.{refusal}
use Rattle.octets.specs.Records.{records}
use Rattle.octets.proofs.Runs.{records_more, records_none}
use Rattle.parameter.specs.declared.Parameter.{Parameter}
use Rattle.parameter.specs.Parameters.{parameter_at, broken}
use Rattle.frame.specs.Parameters.{falls_below, falls, ill_formed, ill_after}
use Rattle.frame.proofs.Formed.{ill_first}
use Rattle.reader.specs.declared.Cursor.{Cursor}
use Rattle.reader.specs.declared.ParameterReader.{ParameterReader}
use Rattle.reader.specs.Readers.{Step, found, start, unless_falling, stands_at, place_after, advanced_of, fresh, stepped_of}
use Rattle.reader.specs.Through.{answers, after, after_found, well_formed, answers_to, answers_of}

-- ---- what a reader has to answer, parameter by parameter
module _ (s : List ℕ) (last : ℕ) where
  to_none : answers_to s last [] ≡ Ok None ∷ []
  unfolding answers_to falls
  to_none = refl

  module _ (p : Parameter) (ps : List Parameter) where
    to_ill : ill_after s last p ≡ true → answers_to s last (p ∷ ps) ≡ Err (refusal 3) ∷ []
    unfolding answers_to well_formed
    to_ill h = rw (ill_first, h)

    to_found : ill_after s last p ≡ false → answers_to s last (p ∷ ps) ≡ found p ∷ answers_to s p.kind ps
    unfolding answers_to well_formed
    to_found h = rw (ill_first, h) (go (ill_formed s p.kind ps))
      where
        go : (b : Bool)
            → cond b (found p ∷ (map found (well_formed s p.kind ps) ++ (Err (refusal 3) ∷ []))) (found p ∷ (map found ps ++ (Ok None ∷ [])))
            ≡ found p ∷ cond b (map found (well_formed s p.kind ps) ++ (Err (refusal 3) ∷ [])) (map found ps ++ (Ok None ∷ []))
        go true = refl
        go false = refl

-- ---- what stands at a cursor
-- by the tests b, of a broken parameter, and of a falling type
module _ (last : ℕ) (p : Parameter) where
  is_ill : (b : Bool) → (b || falls_below last p) ≡ true → unless_falling last (cond b (Err (refusal 3)) (found p)) ≡ Err (refusal 3)
  is_ill true e = refl
  is_ill false e = rw e

  is_found : (b : Bool) → (b || falls_below last p) ≡ false → unless_falling last (cond b (Err (refusal 3)) (found p)) ≡ found p
  is_found true e = apart e
  is_found false e = rw e

module _ (s : List ℕ) (c : Cursor) where
  stands_end : length s ≤ c.at → stands_at s c ≡ Ok None
  stands_end h = rw (le-leb _ _ h)

  stands_ill : c.at < length s → ill_after s c.last (parameter_at s c.at) ≡ true → stands_at s c ≡ Err (refusal 3)
  stands_ill h e = rw (lt-leb _ _ h) (is_ill c.last (parameter_at s c.at) (broken s (parameter_at s c.at)) e)

  stands_found : c.at < length s → ill_after s c.last (parameter_at s c.at) ≡ false → stands_at s c ≡ found (parameter_at s c.at)
  stands_found h e = rw (lt-leb _ _ h) (is_found c.last (parameter_at s c.at) (broken s (parameter_at s c.at)) e)

-- ---- the answers of a reader, by what stands at its place
module _ (packet : Bor (List ℕ)) where
  abbrev reader_at : Cursor → ParameterReader
  reader_at c = record { packet = packet; cursor = c }

  -- the cursor past the parameter at a cursor
  abbrev past : Cursor → Cursor
  past c = place_after c (found (parameter_at packet.now c.at))

  -- the packet's parameters from a cursor on
  abbrev from : (steps : ℕ) → Cursor → List Parameter
  from steps c = records (parameter_at packet.now) (λ (p : Parameter). p.next) (length packet.now) steps c.at

  -- the answers from a cursor on are those that its parameters call for
  abbrev Right : (n steps : ℕ) → Cursor → Type 0
  Right n steps c = answers n (reader_at c) ≡ answers_to packet.now c.last (from steps c)

  -- what is no parameter is the last answer
  answers_end : (n : ℕ) (c : Cursor) (x : Step) → ((more : List Step) → after_found x more ≡ []) → stands_at packet.now c ≡ x → answers n (reader_at c) ≡ x ∷ []
  unfolding answers advanced_of
  answers_end zero c x h e = ap (λ (y : Step). y ∷ []) e
  answers_end (suc n) c x h e =
      ap (λ (y : Step). y ∷ after_found y (answers n (reader_at (place_after c y)))) e ∙ ap (λ (ys : List Step). x ∷ ys) (h (answers n (reader_at (place_after c x))))

  -- a parameter is followed by the answers from past it
  answers_more : (n : ℕ) (c : Cursor) (p : Parameter) → stands_at packet.now c ≡ found p → answers (suc n) (reader_at c) ≡ found p ∷ answers n (reader_at (place_after c (found p)))
  unfolding answers advanced_of
  answers_more n c p e = ap (λ (y : Step). y ∷ after_found y (answers n (reader_at (place_after c y)))) e

  right_end : (n steps : ℕ) (c : Cursor) → length packet.now ≤ c.at → Right n steps c
  right_end n steps c h =
      answers_end n c (Ok None) (λ more. refl) (stands_end packet.now c h)
      ∙ rw (records_none (parameter_at packet.now) (λ (p : Parameter). p.next) (length packet.now) steps c.at h) (sym (to_none packet.now c.last))

  module _ (n steps : ℕ) (c : Cursor) (h : c.at < length packet.now) (enough : length packet.now - c.at ≤ steps) where
    first : from steps c ≡ parameter_at packet.now c.at ∷ from (steps - 1) (past c)
    first = records_more (parameter_at packet.now) (λ (p : Parameter). p.next) (length packet.now) steps c.at h enough

    right_ill : ill_after packet.now c.last (parameter_at packet.now c.at) ≡ true → Right n steps c
    right_ill e =
        answers_end n c (Err (refusal 3)) (λ more. refl) (stands_ill packet.now c h e)
        ∙ (sym (to_ill packet.now c.last (parameter_at packet.now c.at) (from (steps - 1) (past c)) e) ∙ ap (answers_to packet.now c.last) (sym first))

    right_found : ill_after packet.now c.last (parameter_at packet.now c.at) ≡ false → Right n (steps - 1) (past c) → Right (suc n) steps c
    right_found e rest =
        answers_more n c (parameter_at packet.now c.at) (stands_found packet.now c h e)
        ∙ (ap (λ (ys : List Step). found (parameter_at packet.now c.at) ∷ ys) rest
        ∙ (sym (to_found packet.now c.last (parameter_at packet.now c.at) (from (steps - 1) (past c)) e) ∙ ap (answers_to packet.now c.last) (sym first)))

  right : (n steps : ℕ) (c : Cursor) → length packet.now - c.at ≤ n → length packet.now - c.at ≤ steps → Right n steps c
  right zero steps c hn hs = right_end zero steps c (omega arith)
  right (suc n) steps c hn hs =
      go (leb (length packet.now) c.at) (ill_after packet.now c.last (parameter_at packet.now c.at)) refl refl (right n (steps - 1) (past c))
    where
      go : (b i : Bool) → leb (length packet.now) c.at ≡ b → ill_after packet.now c.last (parameter_at packet.now c.at) ≡ i
          → (length packet.now - (past c).at ≤ n → length packet.now - (past c).at ≤ steps - 1 → Right n (steps - 1) (past c))
          → Right (suc n) steps c
      go true i hb hi rest = right_end (suc n) steps c (leb-true _ _ hb)
      go false true hb hi rest = right_ill (suc n) steps c (leb-false _ _ hb) hs hi
      go false false hb hi rest = let h : c.at < length packet.now = leb-false _ _ hb in right_found n steps c h hs hi (rest (omega arith) (omega arith))

  -- a new reader that is stepped to its end answers what the packet's parameters call for: as many steps as the packet has bytes suffice
  pub read_through : (steps : ℕ) → length packet.now ≤ steps → answers steps (fresh packet) ≡ answers_of packet.now
  read_through steps h = right steps (length packet.now) start (omega arith) (omega arith)

-- a reader keeps the packet that it was given, however often it is stepped
pub packet_kept : (steps : ℕ) (r : ParameterReader) → (after steps r).packet ≡ r.packet
unfolding after
packet_kept zero r = refl
packet_kept (suc steps) r = packet_kept steps (stepped_of r).reader
