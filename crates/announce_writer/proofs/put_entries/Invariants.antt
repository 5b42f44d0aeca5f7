-- The entries before the one whose turn it is are written, and the rest of the buffer is as it was.
use Rattle.std.proofs.Common.{◌≡◌, ◌+◌, take}
use Rattle.writer.specs.Writes.{written_at}
use Rattle.announcement.specs.Written.{set_body}
use Rattle.announcement.specs.Entries.{set_size}
use Rattle.announce_writer.proofs.put_entries.Given as goal

abbrev pub invariant-loop-e : goal.invariant-loop-e
invariant-loop-e l = record {
  place : l.next ≡ l.at + set_size (take l.e-index l.list);
  written : l.buffer ≡ written_at l.at (set_body l.spi (take l.e-index l.list)) l.fn.buffer;
}
