-- The refusals in order and the definition's answer: what a refusal leaves, and what a call that is not refused may rely on. Assumes nothing.
use Prim.Native.Nat.{ℕ, ◌≤◌, ◌<◌}
use mathlib.Core.Path.{◌≡◌, refl, sym, ap, ◌∙◌}
use mathlib.Core.Bool.{Bool, true, false, cond}
use mathlib.Core.List.{List, [], ◌∷◌}
use lib.ListN.{length, take, drop}
use native.Mathlib.Omega.{arith}
use borrow.Author.Tests.{eqb-false, lt-ltb, le-ltb, ltb-false}
use Rattle.std.specs.Prelude.{Err, Ok, Result}
use Rattle.boolean.proofs.Laws.{cond_all}
use Rattle.reply_form.specs.Replies.{overwritten}
use Rattle.refusal.specs.Table.{refusal}
use Rattle.refusal.specs.declared.Refusal.{Refusal}
use Rattle.association.specs.declared.Association.{Association}
use Rattle.association.specs.Form.{id_limit, refusal0}
use Rattle.association.proofs.Sound.{sound}
use Rattle.announcement.specs.declared.OwnLocator.{OwnLocator}
use Rattle.announcement.specs.declared.Announcement.{Announcement}
use Rattle.announcement.specs.Written.{announcement_bytes}
use Rattle.announcement.specs.Announcements.{refusal17, refusal18, refusal19, refusal20, refusal21, Announced, declined, announced, handled, answer_of, announcement_of, buffer_after}
use Rattle.announce.specs.Ends.{judged}

-- ---- the answer of the refusals together
module _ (a : Association) (count inbound keymat room : ℕ) where
  -- how the call ends where the refusals come to this
  abbrev pub ended : List OwnLocator → Result ℕ Refusal → Announced
  ended es (Ok size) = announced a es inbound keymat
  ended es (Err why) = record { outcome = Err why; bytes = []; left = a }

  -- one refusal more is tried before
  tried : (es : List OwnLocator) (test : Bool) (number : ℕ) (rest : Announced) (r : Result ℕ Refusal) → rest ≡ ended es r
      → cond test (declined number a) rest ≡ ended es (cond test (Err (refusal number)) r)
  tried es true number rest r e = refl
  tried es false number rest r e = e

  handled_ends : (list : List OwnLocator) → handled a list count inbound keymat room ≡ ended (take count list) (judged a (take count list) count inbound keymat room)
  unfolding handled
  handled_ends list =
      let es = take count list in
      tried es (refusal0 a) 0 _ _
      (tried es (refusal17 count) 17 _ _
      (tried es (refusal18 inbound es) 18 _ _
      (tried es (refusal19 inbound) 19 _ _
      (tried es (refusal20 a.next) 20 _ _
      (tried es (refusal21 room (announcement_bytes a es inbound keymat)) 21 _ _ refl)))))

  -- by what the code found of the list's entries
  pub judged_ends : (list es : List OwnLocator) (r : Result ℕ Refusal) → es ≡ take count list → r ≡ judged a es count inbound keymat room
      → handled a list count inbound keymat room ≡ ended es r
  judged_ends list es r p q = rw (q, p) (handled_ends list)

  -- what a call that is not refused may rely on
  pub record Allowed (es : List OwnLocator) (size : ℕ) : Type 0 where
    pub id_left : a.next < id_limit
    pub size_is : size ≡ length (announcement_bytes a es inbound keymat)
    pub fits : size ≤ room

  below : (n m : ℕ) → n ≤ m → (n ≡ m → ⊥) → n < m
  below n m h o = omega (arith, o)

  allowed : (es : List OwnLocator) (size : ℕ) → judged a es count inbound keymat room ≡ Ok size → Allowed es size
  allowed es size =
      let P : Result ℕ Refusal → Type 0 = λ r. r ≡ Ok size → Allowed es size in
      cond_all P (refusal0 a) (Err (refusal 0)) _ (λ q e. cc)
      (λ p0. cond_all P (refusal17 count) (Err (refusal 17)) _ (λ q e. cc)
      (λ p1. cond_all P (refusal18 inbound es) (Err (refusal 18)) _ (λ q e. cc)
      (λ p2. cond_all P (refusal19 inbound) (Err (refusal 19)) _ (λ q e. cc)
      (λ p3. cond_all P (refusal20 a.next) (Err (refusal 20)) _ (λ q e. cc)
      (λ p4. cond_all P (refusal21 room (announcement_bytes a es inbound keymat)) (Err (refusal 21)) _ (λ q e. cc)
      (λ p5 e.
      let size_is : size ≡ length (announcement_bytes a es inbound keymat) = cc in
      let s = sound a p0 in
      record {
        id_left = below a.next id_limit s.next (eqb-false a.next id_limit p4);
        size_is = size_is;
        fits = rw size_is (ltb-false room (length (announcement_bytes a es inbound keymat)) p5);
      }))))))

  pub judged_allows : (es : List OwnLocator) (r : Result ℕ Refusal) (size : ℕ) → r ≡ judged a es count inbound keymat room → r ≡ Ok size → Allowed es size
  judged_allows es r size p q = allowed es size (sym p ∙ q)

-- ---- how a call ends, by the refusals in order: laws that no code cites
-- "A refusal returns its number and zero reply bytes; association and buffer are as lent."
abbrev pub refused_with : Refusal → Association → Announcement
refused_with why a = record { outcome = Err why; written = 0; association = a }

-- what a call is given
pub record Lent : Type 0 where
  pub association : Association
  pub list : List OwnLocator
  pub count : ℕ
  pub inbound : ℕ
  pub keymat : ℕ
  pub buffer : List ℕ

-- the definition's answer to it
abbrev pub handled_of : Lent → Announced
handled_of x = handled x.association x.list x.count x.inbound x.keymat (length x.buffer)

-- the answer and the buffer afterwards are the definition's
abbrev pub Answered : Lent → Announcement → (after : List ℕ) → Type 0
Answered x r after =
    (r ≡ announcement_of x.association x.list x.count x.inbound x.keymat x.buffer)
    × (after ≡ buffer_after x.association x.list x.count x.inbound x.keymat x.buffer)

module _ (x : Lent) where
  -- the call ends so
  pub ends : (r : Announcement) (after : List ℕ) (h : Announced) → r ≡ answer_of h → after ≡ overwritten h.bytes x.buffer → h ≡ handled_of x
      → Answered x r after
  ends r after h e f g = (e ∙ ap answer_of g, f ∙ ap (λ (k : Announced). overwritten k.bytes x.buffer) g)

  -- a refusal ends so: nothing is written
  pub ends_refused : (r : Announcement) (number : ℕ) → r ≡ refused_with (refusal number) x.association → declined number x.association ≡ handled_of x
      → Answered x r x.buffer
  ends_refused r number e g = ends r x.buffer (declined number x.association) e refl g

-- ---- the refusals in order
-- a refusal that is tried: its number and its test
pub data Try : Type 0 where
  try : (number : ℕ) (test : Bool) → Try

-- they are tried in order, and the first whose test holds decides; after them comes the last answer
abbrev pub chain : Association → List Try → (last : Announced) → Announced
chain a [] last = last
chain a (try number test ∷ tries) last = cond test (declined number a) (chain a tries last)

-- these are left to try, and they decide
pub record Left (a : Association) (tries : List Try) (last h : Announced) : Type 0 where
  pub decide : chain a tries last ≡ h

-- the first of them stops the call, or lets it pass
pub stops : {a : Association} {number : ℕ} {test : Bool} {tries : List Try} {last h : Announced} → test ≡ true → Left a (try number test ∷ tries) last h
    → declined number a ≡ h
stops p l = rw p at l.decide

pub passes : {a : Association} {number : ℕ} {test : Bool} {tries : List Try} {last h : Announced} → test ≡ false → Left a (try number test ∷ tries) last h
    → Left a tries last h
passes p l = record { decide = rw p at l.decide }

-- none is left
pub accepts : {a : Association} {last h : Announced} → Left a [] last h → last ≡ h
accepts l = l.decide

module _ (x : Lent) where
  abbrev pub tries : List Try
  tries =
      try 0 (refusal0 x.association)
      ∷ try 17 (refusal17 x.count)
      ∷ try 18 (refusal18 x.inbound (take x.count x.list))
      ∷ try 19 (refusal19 x.inbound)
      ∷ try 20 (refusal20 x.association.next)
      ∷ try 21 (refusal21 (length x.buffer) (announcement_bytes x.association (take x.count x.list) x.inbound x.keymat))
      ∷ []

  -- the first n of them let the call pass
  abbrev pub Passed : (n : ℕ) → Type 0
  Passed n = Left x.association (drop n tries) (announced x.association (take x.count x.list) x.inbound x.keymat) (handled_of x)

  pub none_tried : Passed 0
  unfolding handled
  none_tried = record { decide = refl }

-- refusal 21, by the size of what is to be written
module _ (room size : ℕ) (bytes : List ℕ) (s : size ≡ length bytes) where
  pub short : room < size → refusal21 room bytes ≡ true
  short h = lt-ltb room (length bytes) (omega arith)

  pub wide : size ≤ room → refusal21 room bytes ≡ false
  wide h = le-ltb room (length bytes) (omega arith)
