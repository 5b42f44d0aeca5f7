-- What one turn of the walk's loop adds: cited by private functions alone.
use Rattle.std.specs.Prelude.{ℕ, ◌||◌}
use Rattle.parameter.specs.Types.{esp_info, locator_set, seq, ack, echo_request_signed, echo_response_signed, refused_type}
use Rattle.frame.specs.Survey.{counted}
use Rattle.frame.specs.declared.Survey.{Survey}

-- what has been seen after one more parameter
abbrev pub noted : Survey → (kind body len : ℕ) → Survey
noted seen kind body len = record {
  unknown = refused_type kind || seen.unknown;
  esp = counted esp_info seen.esp kind body len;
  set = counted locator_set seen.set kind body len;
  seq = counted seq seen.seq kind body len;
  ack = counted ack seen.ack kind body len;
  request = counted echo_request_signed seen.request kind body len;
  echo = counted echo_response_signed seen.echo kind body len;
}
