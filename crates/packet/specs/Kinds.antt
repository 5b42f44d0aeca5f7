-- "Accepted messages are of two kinds.", and order 1 brings "a third kind". Move and Reply are document 01's terms, and Check is order 1's.
use Rattle.std.specs.Prelude.{Bool, ◌&&◌, ltb, eqb}
use Rattle.frame.specs.declared.Occurrence.{Occurrence}
use Rattle.frame.specs.declared.Survey.{Survey}

-- "exactly one"
abbrev pub exactly_one : Occurrence → Bool
exactly_one seen = eqb seen.times 1

-- "at most one"
abbrev pub at_most_one : Occurrence → Bool
at_most_one seen = ltb seen.times 2

-- "none"
abbrev pub none : Occurrence → Bool
none seen = eqb seen.times 0

-- "A Move has exactly one each of ESP_INFO, LOCATOR_SET and SEQ, at most one echo response and one ACK." "a Move or Reply holds no 897"
unfoldable pub is_move : Survey → Bool
is_move seen =
    exactly_one seen.esp
    && (exactly_one seen.set && (exactly_one seen.seq && (at_most_one seen.echo && (at_most_one seen.ack && none seen.request))))

-- "A Reply has exactly one echo response, none of those three, at most one ACK." "a Move or Reply holds no 897"
unfoldable pub is_reply : Survey → Bool
is_reply seen =
    exactly_one seen.echo
    && (none seen.esp && (none seen.set && (none seen.seq && (none seen.request && at_most_one seen.ack))))

-- "a Check (SEQ and one 897, at most one each of ESP_INFO and ACK, nothing else known but 705, MAC and signature)"
unfoldable pub is_check : Survey → Bool
is_check seen =
    exactly_one seen.seq
    && (exactly_one seen.request && (at_most_one seen.esp && (at_most_one seen.ack && (none seen.set && none seen.echo))))
