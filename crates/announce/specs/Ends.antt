-- What a call is refused for: cited by a private function alone.
use Rattle.std.specs.Prelude.{ℕ, cond, Err, List, length, Ok, Result}
use Rattle.refusal.specs.Table.{refusal}
use Rattle.refusal.specs.declared.Refusal.{Refusal}
use Rattle.association.specs.Form.{refusal0}
use Rattle.association.specs.declared.Association.{Association}
use Rattle.announcement.specs.declared.OwnLocator.{OwnLocator}
use Rattle.announcement.specs.Written.{announcement_bytes}
use Rattle.announcement.specs.Announcements.{refusal17, refusal18, refusal19, refusal20, refusal21}

-- the refusals in order, 0 and 17 to 21, and after them the bytes that are written
abbrev pub judged : Association → (es : List OwnLocator) → (count inbound keymat room : ℕ) → Result ℕ Refusal
judged a es count inbound keymat room =
    cond (refusal0 a) (Err (refusal 0))
    (cond (refusal17 count) (Err (refusal 17))
    (cond (refusal18 inbound es) (Err (refusal 18))
    (cond (refusal19 inbound) (Err (refusal 19))
    (cond (refusal20 a.next) (Err (refusal 20))
    (cond (refusal21 room (announcement_bytes a es inbound keymat)) (Err (refusal 21))
    (Ok (length (announcement_bytes a es inbound keymat))))))))
