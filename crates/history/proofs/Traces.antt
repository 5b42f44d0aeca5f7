-- What a call does to one address, as demand 3 asks for it: the nonce that is outstanding, what becomes ACTIVE, and what never does. Assumes nothing.
use mathlib.Core.Path.{◌≡◌, refl, sym, ◌∙◌}
use mathlib.Core.Bool.{Bool, true, false, not, cond, ◌&&◌, ◌||◌}
use mathlib.Core.Logic.{inl, inr}
use mathlib.Core.List.{List}
use Prim.Native.Nat.{ℕ}
use lib.Dec.{eqb}
use native.Mathlib.Omega.{arith}
use Rattle.std.specs.Prelude.{Err, None, Ok, Option, Result, Some, option_map}
use Rattle.boolean.proofs.Laws.{and_true, and_false}
use Rattle.refusal.specs.declared.Refusal.{Refusal}
use Rattle.address.specs.declared.Address.{Address}
use Rattle.locator.specs.declared.ListedLocator.{ListedLocator}
use Rattle.packet.specs.declared.EchoResponse.{EchoResponse}
use Rattle.packet.specs.declared.MoveFields.{MoveFields}
use Rattle.packet.specs.Readings.{opaque_of}
use Rattle.packet.specs.declared.Message.{Message}
use Rattle.packet.specs.declared.Message.TheVariants.{Move, Reply, PeerCheck}
use Rattle.locator_set.specs.Sets.{listed_in}
use Rattle.slot.specs.declared.Check.{Check}
use Rattle.slot.specs.declared.Status.{Status}
use Rattle.slot.specs.declared.Status.TheVariants.{Unverified}
use Rattle.slot.specs.Found.{or_else, status_in, is_active, found_as}
use Rattle.slot.specs.Checks.{resend_status}
use Rattle.slot.proofs.Expired.{KeptOrDeprecated}
use Rattle.readdress.specs.Echoes.{answers}
use Rattle.readdress.specs.Steps.{is_listed}
use Rattle.readdress.specs.Checks.{nonce_taken}
use Rattle.readdress.proofs.Live.{is_dead, nonce_held}
use Rattle.readdress.proofs.Turned.{move_verifies, move_revives_none, move_nonce, move_keeps_nonce, reply_verifies, reply_revives_none, reply_keeps_nonce}
use Rattle.association.specs.declared.Association.{Association}
use Rattle.update.specs.Messages.{Handled, differs, placement, after_move, replied, moved, handle_reading}
use Rattle.update.proofs.Cases.{reply_ends, move_ends, check_ends}
use Rattle.history.specs.Calls.{Answered, of_message, is_accepted, is_repeat}
use Rattle.history.specs.Words.{nonce_of, echo_in, retired_by, taken_by, while_unverified}

-- the answer is neither a refusal nor Repeated
abbrev pub is_heeded : Answered → Bool
is_heeded r = is_accepted r && not (is_repeat r)

-- the nonce that a call echoes is this one
abbrev pub is_echo : (echo : Option ℕ) → (nonce : ℕ) → Bool
is_echo None nonce = false
is_echo (Some n) nonce = eqb n nonce

-- what a call does to an address: its status before and after, the nonce that a new check took for it, the nonce that the call echoes, whether it
-- retires the address, and whether it is heeded
pub record Traced (before after : Option Status) (taken echo : Option ℕ) (retired heeded : Bool) : Type 0 where
  -- the nonce outstanding by the history is the one that the association holds
  pub nonce : while_unverified after (or_else taken (nonce_held before)) ≡ nonce_held after
  -- "No call makes an address ACTIVE that it finds DEPRECATED or not held."
  pub revived : is_dead before ≡ true → found_as is_active after ≡ false
  -- "A call that finds an address UNVERIFIED leaves it ACTIVE exactly when it is" heeded, "echoes the nonce outstanding for that address" and "does not itself
  -- retire it"
  pub verified : (k : Check) → before ≡ Some (Unverified k) → found_as is_active after ≡ (heeded && (is_echo echo k.nonce && not retired))

-- ---- a call that leaves the status
-- refused or Repeated
pub traced_unheeded : (o : Option Status) (echo : Option ℕ) (retired : Bool) → Traced o o None echo retired false
traced_unheeded o echo retired = record { nonce = grind arith; revived = λ d. grind arith; verified = λ k p. rw p }

-- a call that is no message: it echoes nothing and retires nothing
pub traced_still : (o : Option Status) (heeded : Bool) → Traced o o None None false heeded
traced_still o heeded = record { nonce = grind arith; revived = λ d. grind arith; verified = λ k p. rw p (sym (and_false heeded)) }

pub traced_expired : (o o' : Option Status) (heeded : Bool) → KeptOrDeprecated o o' → Traced o o' None None false heeded
traced_expired None o' heeded p = rw p (traced_still None heeded)
traced_expired (Some s) o' heeded (inl p) = rw p (traced_still (Some s) heeded)
traced_expired (Some s) o' heeded (inr p) = rw p (record { nonce = refl; revived = λ d. refl; verified = λ k q. sym (and_false heeded) })

-- a resend leaves the nonce, and makes nothing ACTIVE
pub traced_resent : (time : ℕ) (o o' : Option Status) (heeded : Bool) → Traced o o' None None false heeded → Traced o (option_map (resend_status time) o') None None false heeded
traced_resent time o o' heeded p =
    let q = p.nonce in
    record {
      nonce = grind arith;
      revived = λ d. let r = p.revived d in grind arith;
      verified = λ k e. let v = p.verified k e in grind arith;
    }

-- ---- a message
-- the test of step 1 is that of the echoed nonce
echo_answers : (e : EchoResponse) (k : Check) → answers e (Unverified k) ≡ is_echo (nonce_of e) k.nonce
echo_answers e k = grind arith

-- a nonce that was there before, or was taken
either_nonce : (after : Option Status) (taken before kept : Option ℕ) → nonce_held after ≡ or_else taken kept → ((j : ℕ) → kept ≡ Some j → before ≡ Some j) →
    while_unverified after (or_else taken before) ≡ nonce_held after
either_nonce after taken before kept p q = grind arith

traced_reply : (x : Address) (a : Association) (e : EchoResponse) →
    Traced (status_in x a.slots) (status_in x (replied a e).left.slots) None (nonce_of e) false true
traced_reply x a e = record {
  nonce =
      either_nonce (status_in x (replied a e).left.slots) None (nonce_held (status_in x a.slots)) (nonce_held (status_in x (replied a e).left.slots)) refl
      (reply_keeps_nonce x e a.slots);
  revived = reply_revives_none x e a.slots;
  verified = λ k p. reply_verifies x e a.slots k p ∙ echo_answers e k ∙ sym (and_true (is_echo (nonce_of e) k.nonce));
}

traced_move : (x : Address) (a : Association) (m : MoveFields) (set : List ListedLocator) (nonces : List ℕ) →
    Traced (status_in x a.slots) (status_in x (moved a m set nonces).left.slots) (nonce_taken x set nonces (placement a m set).slots) (nonce_of m.echo)
    (differs a m || not (is_listed x set)) true
unfolding after_move
traced_move x a m set nonces =
    let d = differs a m in
    record {
      nonce =
          either_nonce (status_in x (moved a m set nonces).left.slots) (nonce_taken x set nonces (placement a m set).slots) (nonce_held (status_in x a.slots))
          (nonce_held (status_in x (placement a m set).slots))
          (move_nonce x a.time d m.echo set a.preferred a.next nonces a.slots)
          (move_keeps_nonce x a.time d m.echo set a.preferred a.next nonces a.slots);
      revived = move_revives_none x a.time d m.echo set a.preferred a.next nonces a.slots;
      verified = λ k p. move_verifies x a.time d m.echo set a.preferred a.next nonces a.slots k p ∙ rw (echo_answers m.echo k);
    }

-- what handling a message does to an address, by what was read of the packet
abbrev pub TracedBy : Address → Association → Result Message Refusal → (nonces : List ℕ) → Handled → Type 0
TracedBy x a r nonces h =
    Traced (status_in x a.slots) (status_in x h.left.slots) (cond (is_heeded (of_message h.outcome)) (taken_by x a r nonces) None) (echo_in r) (retired_by x a r)
    (is_heeded (of_message h.outcome))

pub traced_reading : (x : Address) (a : Association) (packet : List ℕ) (r : Result Message Refusal) (nonces : List ℕ) →
    TracedBy x a r nonces (handle_reading a packet r nonces)
traced_reading x a packet (Err why) nonces = traced_unheeded (status_in x a.slots) None false
traced_reading x a packet (Ok (PeerCheck c)) nonces =
    check_ends (TracedBy x a (Ok (PeerCheck c)) nonces) a (λ n. traced_unheeded (status_in x a.slots) None false) c.id (opaque_of packet c)
    (λ q. traced_unheeded (status_in x a.slots) None false) (λ q. traced_still (status_in x a.slots) true)
traced_reading x a packet (Ok (Reply e)) nonces =
    reply_ends (TracedBy x a (Ok (Reply e)) nonces) a (λ n. traced_unheeded (status_in x a.slots) (nonce_of e) false) e (traced_reply x a e)
traced_reading x a packet (Ok (Move m set)) nonces =
    let still = traced_unheeded (status_in x a.slots) (nonce_of m.echo) (differs a m || not (is_listed x (listed_in set))) in
    move_ends (TracedBy x a (Ok (Move m set)) nonces) a (λ n. still) m (listed_in set) nonces still (λ q r. traced_move x a m (listed_in set) nonces)
