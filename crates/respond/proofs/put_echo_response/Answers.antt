-- `respond::put_echo_response` meets its contract. Its parts stand one after another. Assumes nothing.
use Rattle.std.proofs.Common.{◌+◌, ◌-◌, length, refl, arith}
use Rattle.respond.proofs.Written.{echo_response_written}
use Rattle.respond.proofs.put_echo_response.Goals as goal

pub returns : goal.returns
returns c =
    let a = c.args in
    let size = c.taken_by.ensures in
    let n = c.taken_by.result - 4 - length a.check.now.opaque.now - 0 in
    let place = a.at + 4 + length a.check.now.opaque.now in
    echo_response_written a.check.now.opaque.now a.at n place a.buffer.now _ _ _ a.check.now.few c.requires (omega arith) refl c.put_head.ensures c.put.ensures.0 c.put-2.ensures.0
