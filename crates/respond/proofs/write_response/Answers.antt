-- `respond::write_response` meets its contract: the ACK, and the echo response after it. Assumes nothing.
use Rattle.std.proofs.Common.{arith}
use Rattle.reply_form.proofs.Sizes.{response_length}
use Rattle.respond.proofs.Written.{response_written}
use Rattle.respond.proofs.write_response.Goals as goal

pub returns : goal.returns
returns c =
    let a = c.args in
    let size = c.taken_by.ensures in
    record {
      value = omega (arith, response_length a.check.now.id a.check.now.opaque.now);
      buffer_after =
          response_written a.check.now.id a.check.now.opaque.now a.buffer.now _ _ a.check.now.few c.requires c.write_ack.ensures.buffer_after c.put_echo_response.ensures;
    }
