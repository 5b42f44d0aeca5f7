-- The reply of a Move is written whole, since there is room for all its checks.
use Rattle.std.proofs.Common.{refl}
use Rattle.accept.proofs.Ends.{move_written}
use Rattle.accept.proofs.moved.Goals as goal

pub returns : goal.returns
returns c =
    let a = c.args in
    let w =
    move_written a.a a.m a.listed.now a.nonces.now a.buffer.now _ _ a.checks _ _
    c.requires.reply_room_in_bounds c.requires.checks_le_slot_count.0 c.requires.placed_value.1 c.after_move-association.ensures
    c.write_move-written.ensures.value c.write_move-written.ensures.buffer_after refl in
    record { value = w.0; buffer_after = w.1 }
