-- "what an accepted announcement writes, behind a header and marked authentic, is accepted by a peer's association". Assumes nothing.
use Prim.Native.Nat.{ℕ}
use mathlib.Core.Path.{◌≡◌, refl, sym, ap, ◌∙◌}
use mathlib.Core.Bool.{false}
use mathlib.Core.List.{List, [], ◌∷◌}
use lib.ListN.{take, length-map}
use native.Mathlib.Omega.{arith}
use borrow.Author.Tests.{eq-eqb}
use Rattle.std.specs.Prelude.{Result}
use Rattle.std.specs.List.{list_any}
use Rattle.refusal.specs.declared.Refusal.{Refusal}
use Rattle.locator.specs.declared.ListedLocator.{ListedLocator}
use Rattle.locator_set.specs.Sets.{padded, listed_in}
use Rattle.locator_set.proofs.Listing.{padded_first}
use Rattle.packet.specs.declared.MoveFields.{MoveFields}
use Rattle.packet.specs.declared.Message.{Message}
use Rattle.association.specs.declared.Association.{Association}
use Rattle.association.specs.Start.{unusable_spi}
use Rattle.announcement.specs.declared.OwnLocator.{OwnLocator}
use Rattle.announcement.specs.Listed.{as_listed}
use Rattle.update.specs.Refusals.{other_spi, refusal9}
use Rattle.update.specs.Messages.{moved, handle_move, handle_reading}
use Rattle.round_trip.specs.Read.{sent_packet, announced_fields, announced_list, announced_set}
use Rattle.round_trip.proofs.Accepted.{is_passed}
use Rattle.round_trip.proofs.Read.{reading_what_we_wrote}
use Rattle.agreement.specs.Accepted.{Awaits, IsAccepted}
use Rattle.agreement.proofs.Heard.{heard, below_passes}

-- the type 1 entries that are read have the new SPI
none_other : (inbound : ℕ) (es : List OwnLocator) → list_any (other_spi inbound) (announced_list es inbound) ≡ false
none_other inbound [] = refl
none_other inbound (e ∷ es) = let rest = none_other inbound es in grind (arith, eq-eqb)

module _ (a : Association) (es : List OwnLocator) (inbound keymat : ℕ) where
  abbrev fields : MoveFields
  fields = announced_fields a inbound keymat

  abbrev set : List ListedLocator
  set = announced_list es inbound

  -- the set that is read lists exactly these
  set_first : listed_in (announced_set es inbound) ≡ set
  set_first = ap (λ (n : ℕ). take n (padded set)) (sym (length-map es (as_listed inbound))) ∙ padded_first set

  module _ (b : Association) (nonces : List ℕ) (room : ℕ) (h : Awaits a es inbound keymat b nonces room) (usable : unusable_spi inbound ≡ false) where
    unrefused9 : refusal9 b.outbound a.inbound inbound set ≡ false
    unrefused9 = rw (h.outbound, eq-eqb a.inbound a.inbound refl, usable, none_other inbound es)

    -- refusal 8 does not judge a Move without an echo response
    move_accepted : handle_move b fields set nonces ≡ moved b fields set nonces
    unfolding handle_move
    move_accepted = let q = below_passes b.peer a.next h.below in rw (q.0, q.1, unrefused9, h.unrefused10, h.unrefused11)

-- "what an accepted announcement writes .. is accepted"
pub announcement_accepted : IsAccepted
announcement_accepted a list count inbound keymat room header tail sent b nonces peer_room h =
    let es : List OwnLocator = take count list in
    let packet : List ℕ = sent_packet a list count inbound keymat room header tail in
    heard b packet nonces peer_room h.listens
    ∙ ap (λ (r : Result Message Refusal). handle_reading b packet r nonces) (reading_what_we_wrote a list count inbound keymat room header tail sent)
    ∙ ap (λ (s : List ListedLocator). handle_move b (fields a es inbound keymat) s nonces) (set_first a es inbound keymat)
    ∙ move_accepted a es inbound keymat b nonces peer_room h (is_passed a list count inbound keymat room sent.accepted).usable
