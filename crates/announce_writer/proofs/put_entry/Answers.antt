-- Its head, its SPI and its address stand one after another.
use Rattle.std.proofs.Common.{arith}
use Rattle.announcement.proofs.Sizes.{units_least}
use Rattle.announce_writer.proofs.Parts.{entry_written}
use Rattle.announce_writer.proofs.put_entry.Goals as goal

pub returns-clause-buffer_after : goal.returns-clause-buffer_after
returns-clause-buffer_after c =
    let a = c.args in
    let least = units_least a.e.now.kind in
    entry_written a.spi a.e.now a.at _ a.buffer.now _ _ _ (omega arith) (omega arith) c.put_entry_head.ensures c.put_spi.ensures c.put_address.ensures
