-- The call that announces: from the association, our list, the new inbound SPI, the KEYMAT Index and the length of the lent buffer to the whole answer.
use Rattle.std.specs.Prelude.{ℕ, ◌+◌, Bool, cond, ◌||◌, List, [], ltb, eqb, length, take, Err, Ok, Result, ⊤}
use Rattle.refusal.specs.Table.{refusal}
use Rattle.locator_set.specs.Sets.{set_limit, refusal6}
use Rattle.association.specs.declared.Association.{Association}
use Rattle.association.specs.Form.{id_limit, refusal0}
use Rattle.association.specs.Start.{unusable_spi}
use Rattle.reply_form.specs.Replies.{overwritten}
use Rattle.announcement.specs.declared.OwnLocator.{OwnLocator}
use Rattle.announcement.specs.declared.Announcement.{Announcement}
use Rattle.announcement.specs.Written.{set_body, announcement_bytes}
use Rattle.refusal.specs.declared.Refusal.{Refusal}

-- ---- the refusals
-- refusal 17: "list outside 1 to 8"
abbrev pub refusal17 : (count : ℕ) → Bool
refusal17 count = eqb count 0 || ltb set_limit count

-- refusal 18: "list row 6 would refuse", by the bytes that would be written for the set
abbrev pub refusal18 : (inbound : ℕ) → List OwnLocator → Bool
refusal18 inbound es = refusal6 (set_body inbound es)

-- refusal 19: "SPI 0", by the one rule of which SPIs may not be used
abbrev pub refusal19 : (inbound : ℕ) → Bool
refusal19 inbound = unusable_spi inbound

-- refusal 20: "own IDs used up"
abbrev pub refusal20 : (next : ℕ) → Bool
refusal20 next = eqb next id_limit

-- refusal 21: "buffer below what is to be written"
abbrev pub refusal21 : (room : ℕ) → (bytes : List ℕ) → Bool
refusal21 room bytes = ltb room (length bytes)

-- ---- the answers
-- an answer with the bytes themselves
pub record Announced : Type 0 where
  pub outcome : Result ⊤ Refusal
  pub bytes : List ℕ
  pub left : Association

-- "A refusal returns its number and zero reply bytes; association and buffer are as lent."
abbrev pub declined : (number : ℕ) → Association → Announced
declined number a = record { outcome = Err (refusal number); bytes = []; left = a }

-- "OLD SPI is the inbound SPI, which becomes the new one; the Update ID is the next own one, which rises by one."
unfoldable pub after_announcement : Association → (inbound : ℕ) → Association
after_announcement a inbound = record {
  outbound = a.outbound;
  inbound = inbound;
  time = a.time;
  aged = a.aged;
  credit = a.credit;
  peer = a.peer;
  next = a.next + 1;
  preferred = a.preferred;
  slots = a.slots;
}

-- the announcement of this list
abbrev pub announced : Association → List OwnLocator → (inbound keymat : ℕ) → Announced
announced a es inbound keymat = record {
  outcome = (Ok tt);
  bytes = announcement_bytes a es inbound keymat;
  left = after_announcement a inbound;
}

-- ---- the refusals in order
-- "tried so: list outside 1 to 8, list row 6 would refuse, SPI 0, own IDs used up, buffer below what is to be written", after refusal 0. The list is the
-- first `count` of its entries
unfoldable pub handled : Association → (list : List OwnLocator) → (count inbound keymat room : ℕ) → Announced
handled a list count inbound keymat room =
    cond (refusal0 a) (declined 0 a)
    (cond (refusal17 count) (declined 17 a)
    (cond (refusal18 inbound (take count list)) (declined 18 a)
    (cond (refusal19 inbound) (declined 19 a)
    (cond (refusal20 a.next) (declined 20 a)
    (cond (refusal21 room (announcement_bytes a (take count list) inbound keymat)) (declined 21 a)
    (announced a (take count list) inbound keymat))))))

-- ---- the whole answer of the call
-- what the call returns
abbrev pub answer_of : Announced → Announcement
answer_of h = record { outcome = h.outcome; written = length h.bytes; association = h.left }

-- the answer to an announcement that is lent this buffer
abbrev pub announcement_of : Association → (list : List OwnLocator) → (count inbound keymat : ℕ) → (buffer : List ℕ) → Announcement
announcement_of a list count inbound keymat buffer = answer_of (handled a list count inbound keymat (length buffer))

-- what the buffer holds afterwards: the announcement, and then what was there
abbrev pub buffer_after : Association → (list : List OwnLocator) → (count inbound keymat : ℕ) → (buffer : List ℕ) → List ℕ
buffer_after a list count inbound keymat buffer = overwritten (handled a list count inbound keymat (length buffer)).bytes buffer
