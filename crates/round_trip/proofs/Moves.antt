-- What it says of a packet that it reads as a Move. Assumes nothing.
use Prim.Native.Nat.{ℕ}
use mathlib.Core.Path.{◌≡◌, refl}
use mathlib.Core.Bool.{Bool, true, false, cond}
use mathlib.Core.List.{List}
use Rattle.refusal.specs.declared.Refusal.{Refusal}
use Rattle.refusal.specs.Table.{refusal}
use Rattle.frame.specs.declared.Survey.{Survey}
use Rattle.frame.specs.Survey.{survey_of, refusal3, refusal4}
use Rattle.locator_set.specs.Sets.{accepted_set, refusal6}
use Rattle.locator_set.specs.declared.LocatorSet.{LocatorSet}
use Rattle.packet.specs.declared.MoveFields.{MoveFields}
use Rattle.packet.specs.declared.Message.TheVariants.{Move}
use Rattle.packet.specs.declared.Message.{Message}
use Rattle.std.specs.Prelude.{Ok, Result}
use Rattle.packet.specs.Kinds.{is_move, is_reply, is_check}
use Rattle.packet.specs.Readings.{fields_of, set_bytes, refusing, refused, move_of, reply_of, check_of, kind_of, reading_of}

-- the packet passes refusals 3, 4 and 6, is a Move, and this is what is read of it
pub record ReadAs (s : List ℕ) (m : MoveFields) (set : LocatorSet) : Type 0 where
  pub unrefused3 : refusal3 s ≡ false
  pub is_move_lem : is_move (survey_of s) ≡ true
  pub unrefused6 : refusal6 (set_bytes s (survey_of s)) ≡ false
  pub fields : m ≡ fields_of s (survey_of s)
  pub listed : set ≡ accepted_set (set_bytes s (survey_of s))

-- a reading that is a message is not refused
not_refused : (b : Bool) (why : Refusal) (r : Result Message Refusal) (x : Message) → cond b (refusing why) r ≡ Ok x → (b ≡ false) × (r ≡ Ok x)
not_refused true why r x h = (cc, cc)
not_refused false why r x h = (refl, h)

-- and is of that kind
module _ (s : List ℕ) (seen : Survey) (m : MoveFields) (set : LocatorSet) where
  abbrev kinds : (b c d : Bool) → Result Message Refusal
  kinds b c d = cond b (move_of s seen) (cond c (reply_of s seen) (cond d (check_of s seen) (refused 5)))

  the_kind : (b c d : Bool) → kinds b c d ≡ Ok (Move m set) → (b ≡ true) × (move_of s seen ≡ Ok (Move m set))
  the_kind true c d h = (refl, h)
  the_kind false true d h = (cc, cc)
  the_kind false false true h = (cc, cc)
  the_kind false false false h = (cc, cc)

pub read_as : (s : List ℕ) (m : MoveFields) (set : LocatorSet) → reading_of s ≡ Ok (Move m set) → ReadAs s m set
unfolding reading_of kind_of
read_as s m set h =
    let seen : Survey = survey_of s in
    let x = not_refused (refusal3 s) (refusal 3) _ (Move m set) h in
    let y = not_refused (refusal4 s) (refusal 4) _ (Move m set) x.1 in
    let z = the_kind s seen m set (is_move seen) (is_reply seen) (is_check seen) y.1 in
    let w = not_refused (refusal6 (set_bytes s seen)) (refusal 6) _ (Move m set) z.1 in
    record { unrefused3 = x.0; is_move_lem = z.0; unrefused6 = w.0; fields = cc; listed = cc }
