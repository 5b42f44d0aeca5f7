-- The premises can be met: we announce two addresses with a new inbound SPI to a peer that knows us at another address. It checks both, and the second check is
-- followed.
use Rattle.std.specs.Prelude.{ℕ, ◌≤◌, ◌≡◌, refl, true, false, List, [], ◌∷◌, map, replicate, None, Some}
use Rattle.std.proofs.Common.{arith}
use Rattle.octets.specs.Records.{records}
use Rattle.octets.specs.Written.{bytes_of}
use Rattle.address.specs.declared.Address.{Address}
use Rattle.address.specs.Rules.{legal}
use Rattle.parameter.specs.Types.{echo_request_signed, echo_response_signed, refused_type, wrong_length}
use Rattle.parameter.specs.Written.{parameter_bytes}
use Rattle.frame.specs.Parameters.{falls}
use Rattle.frame.specs.Survey.{occurs}
use Rattle.locator.specs.Locators.{ill_form}
use Rattle.locator_set.specs.Sets as sets
use Rattle.slot.specs.declared.Status.TheVariants.{Unverified, Active, Deprecated}
use Rattle.slot.specs.Found.{status_in}
use Rattle.slot.specs.Clashes.{clash}
use Rattle.packet.specs.Kinds.{is_move, is_reply, is_check}
use Rattle.packet.specs.Readings.{opaque_of, kind_of, reading_of}
use Rattle.readdress.specs.Echoes.{verify_all}
use Rattle.readdress.specs.Steps.{rebind, renew_all, retire_all}
use Rattle.readdress.specs.Checks.{check_count, checked}
use Rattle.readdress.specs.Moves.{settled, placed}
use Rattle.reply_form.specs.Replies.{checks_bytes, move_bytes, response_bytes}
use Rattle.association.specs.declared.Association.{Association}
use Rattle.association.specs.Form.{refusal0}
use Rattle.association.specs.Start.{start_slots}
use Rattle.announcement.specs.declared.OwnLocator.{OwnLocator}
use Rattle.announcement.specs.Written.{entry_bytes, set_body, announcement_bytes}
use Rattle.announcement.specs.Announcements as announcements
use Rattle.announcement.specs.Sized.{AllSized}
use Rattle.update.specs.Messages.{after_move, handle_move, handle_check, handled}
use Rattle.round_trip.specs.Each.{Each}
use Rattle.round_trip.specs.Wire.{WireParameter, wire_bytes, wires_bytes, Tail}
use Rattle.agreement.specs.Sent.{Below}
use Rattle.agreement.specs.Agreement.{Delivery, Delivered, Meeting, announcement, check, check_id, response, Meets, New, in_use}

-- 2001:db8::n
abbrev address : (n : ℕ) → Address
address n = record { high = 0x20010db800000000; low = n }

-- an association at time 100 that knows its peer at address n
abbrev knows : (outbound inbound highest next n : ℕ) → Association
knows outbound inbound highest next n = record {
  outbound = outbound;
  inbound = inbound;
  time = 100;
  aged = 100;
  credit = 0;
  peer = Some highest;
  next = next;
  preferred = Some 0;
  slots = start_slots 100 (address n) 600;
}

-- address 2 of type 0 with P, and address 3 of type 1
abbrev list : List OwnLocator
list =
    record { address = address 2; lifetime = 60; kind = 0; traffic = 0; preferred = true }
    ∷ replicate 7 (record { address = address 3; lifetime = 300; kind = 1; traffic = 2; preferred = false })

-- a packet of this many units of eight bytes after the first, to one who is lent eight nonces and 384 bytes
abbrev over : (units : ℕ) → (tail : List WireParameter) → Delivery
over units tail = record {
  header = 0x3b ∷ units ∷ 0x10 ∷ 0x21 ∷ replicate 36 0;
  tail = tail;
  nonces = 0x51 ∷ 0x52 ∷ 0x53 ∷ 0x54 ∷ 0x55 ∷ 0x56 ∷ 0x57 ∷ 0x58 ∷ [];
  room = 384;
}

-- HOST_ID of three bytes, whose padding is no zero; HIP_MAC of four
abbrev host : WireParameter
host = record { kind = 705; body = 1 ∷ 2 ∷ 3 ∷ []; padding = 255 ∷ [] }

abbrev mac : WireParameter
mac = record { kind = 61505; body = 1 ∷ 2 ∷ 3 ∷ 4 ∷ []; padding = [] }

-- our next own ID is 7 and the highest that the peer has seen is 6; its next is 5, and the highest that we have seen is 4
abbrev meeting : Meeting
meeting = record {
  ours = knows 0x2001 0x1001 4 7 9;
  list = list;
  count = 2;
  inbound = 0x1002;
  keymat = 0x203;
  room = 80;
  over = over 16 (host ∷ mac ∷ []);
  peers = knows 0x1001 0x2001 6 5 1;
}

-- the definitions that the three calls compute with
unfoldable calls : ℕ
unfolding
    records bytes_of legal refused_type wrong_length parameter_bytes falls occurs ill_form sets.twice sets.marks is_move is_reply is_check opaque_of kind_of reading_of
    status_in clash refusal0 verify_all rebind renew_all retire_all check_count checked settled placed checks_bytes move_bytes response_bytes after_move handle_move
    handle_check handled entry_bytes set_body announcement_bytes announcements.after_announcement announcements.handled wire_bytes wires_bytes
calls = 0

-- HIP_MAC follows any type that is not above its own
mac_follows : (last : ℕ) → last ≤ 61505 → Tail last (mac ∷ [])
unfolding calls Tail
mac_follows last h = (record { whole = record { type = omega arith; len = omega arith; padding = refl }; after = h; type = refl }, tt)

meets : Meets meeting
unfolding calls AllSized Tail Each
meets = record {
  sent = record {
    accepted = refl;
    sized = omega arith;
    old = omega arith;
    new = omega arith;
    index = omega arith;
    long = refl;
    rule = refl;
    follow = (
      record { whole = record { type = omega arith; len = omega arith; padding = refl }; after = omega arith; type = refl },
      mac_follows 705 (omega arith),
    );
  };
  awaits = record { outbound = refl; below = omega arith; listens = record { unrefused0 = refl; unrefused1 = refl }; unrefused10 = refl; unrefused11 = refl };
  slots = refl;
  peer_slots = refl;
  eight = refl;
  sized = (omega arith, (omega arith, (omega arith, (omega arith, (omega arith, (omega arith, (omega arith, (omega arith, tt))))))));
}

-- address 3 is new to the peer
new : New meeting (address 3)
unfolding calls
new = record { is_listed_lem = refl; is_new = refl }

-- its check, the second, with HIP_MAC after it, and our answer
abbrev there : Delivery
there = over 11 (mac ∷ [])

abbrev back : Delivery
back = over 8 (mac ∷ [])

delivered : Delivered there (check meeting 1) echo_request_signed
    × Below (announcement meeting).left.peer (check_id meeting 1)
    × Delivered back (response meeting 1 there).reply echo_response_signed
unfolding calls
delivered = (
  record { behind = record { long = refl; rule = refl; follow = mac_follows echo_request_signed (omega arith) }; unrefused1 = refl },
  omega arith,
  record { behind = record { long = refl; rule = refl; follow = mac_follows echo_response_signed (omega arith) }; unrefused1 = refl },
)

-- "below", at its edge: 5 is below 6 and not below 5; "if any": without one any ID is new
below : Below (Some 5) 6 × Below None 0
below = (omega arith, tt)

not_below : (Below (Some 5) 5 → ⊥) × (Below (Some 5) 4 → ⊥)
not_below = (λ h. omega arith, λ h. omega arith)

-- "a new address" is neither ACTIVE nor UNVERIFIED: one that is not held, or is DEPRECATED
in_use_lem : map in_use (None ∷ Some (Unverified (record { nonce = 7; id = 8; issued = 0; resends = 0 })) ∷ Some Active ∷ Some Deprecated ∷ []) ≡ false ∷ true ∷ true ∷ false ∷ []
in_use_lem = refl
