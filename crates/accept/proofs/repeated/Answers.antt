-- The ACK is written whole, since there is room for it.
use Rattle.std.proofs.Common.{refl}
use Rattle.accept.proofs.Ends.{repeat_written}
use Rattle.accept.proofs.repeated.Goals as goal

pub returns : goal.returns
returns c =
    let a = c.args in
    let w = repeat_written a.a a.id a.buffer.now _ _ _ c.requires c.write_ack-written.ensures.value c.write_ack-written.ensures.buffer_after refl in
    record { value = w.0; buffer_after = w.1 }
