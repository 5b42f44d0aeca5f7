-- One name for the definitions that a call computes with and that do not unfold by themselves, and one for those of a history. Examples alone use
-- them.
use Rattle.std.specs.Prelude.{ℕ}
use Rattle.octets.specs.Records.{records}
use Rattle.octets.specs.Written.{bytes_of}
use Rattle.address.specs.Rules.{legal}
use Rattle.parameter.specs.Types.{refused_type, wrong_length}
use Rattle.parameter.specs.Written.{parameter_bytes}
use Rattle.frame.specs.Parameters.{falls}
use Rattle.frame.specs.Survey.{occurs}
use Rattle.locator.specs.Locators.{ill_form}
use Rattle.locator_set.specs.Sets as sets
use Rattle.packet.specs.Kinds.{is_move, is_reply, is_check}
use Rattle.packet.specs.Readings.{opaque_of, kind_of, reading_of}
use Rattle.slot.specs.Found.{status_in}
use Rattle.slot.specs.Clashes.{clash}
use Rattle.path.specs.Choices.{path_of}
use Rattle.credit.specs.Clock.{aged_by}
use Rattle.association.specs.Form.{refusal0}
use Rattle.association.specs.Start.{start_of}
use Rattle.payload.specs.Calls.{arrival_of, send_of}
use Rattle.resend.specs.Resends.{resent_bytes}
use Rattle.clock.specs.Ticks as ticks
use Rattle.readdress.specs.Echoes.{verify_all}
use Rattle.readdress.specs.Steps.{rebind, renew_all, retire_all}
use Rattle.readdress.specs.Checks.{check_count, checked, check_for}
use Rattle.readdress.specs.Moves.{settled, placed}
use Rattle.reply_form.specs.Replies.{checks_bytes, move_bytes, response_bytes}
use Rattle.update.specs.Messages.{after_move, handle_reply, handle_move, handle_check, handled}
use Rattle.announcement.specs.Written.{entry_bytes, set_body, announcement_bytes}
use Rattle.announcement.specs.Announcements as announcements
use Rattle.history.specs.Calls.{history, after}
use Rattle.history.specs.Ledger.{ledger, held, arrived_in, granted_in, ageings_in, NoArrival}
use Rattle.history.specs.Words.{outstanding_from}
use Rattle.history.specs.Issued.{next_id, last_tick}

-- to unfold this is to unfold whatever its own line names; its value means nothing
unfoldable pub calls : ℕ
unfolding
    records bytes_of legal refused_type wrong_length parameter_bytes falls occurs ill_form sets.twice sets.marks is_move is_reply is_check opaque_of kind_of reading_of
    status_in clash path_of aged_by refusal0 start_of arrival_of send_of resent_bytes ticks.handled verify_all rebind renew_all retire_all check_count checked check_for
    settled placed checks_bytes move_bytes response_bytes after_move handle_reply handle_move handle_check handled entry_bytes set_body announcement_bytes
    announcements.after_announcement announcements.handled
calls = 0

-- the same, for sequences of calls
unfoldable pub sequences : ℕ
unfolding calls history after ledger held arrived_in granted_in ageings_in NoArrival outstanding_from next_id last_tick
sequences = 0
