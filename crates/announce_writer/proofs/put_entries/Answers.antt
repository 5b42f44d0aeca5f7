-- Each turn writes the next entry after those before it.
use Rattle.std.proofs.Common.{arith}
use Rattle.announce_writer.proofs.Parts.{blank_entry, size_within, entries_next, place_next, entries_none, place_first}
use Rattle.announce_writer.proofs.put_entries.Goals as goal

pub loop-e-init : goal.loop-e-init
loop-e-init c =
    let a = c.args in
    record { place = place_first a.at a.list.now; written = entries_none a.spi a.at a.list.now a.buffer.now }

pub put_entry-next-requires : goal.put_entry-next-requires
put_entry-next-requires c =
    let l = c.loop-e.invariant in
    let place = l.place in
    let w = size_within c.args.list.now c.loop-e.e-index blank_entry c.loop-e-test.true in
    omega arith

pub loop-e-preserved : goal.loop-e-preserved
loop-e-preserved c =
    let a = c.args in
    let es = a.list.now in
    let k = c.loop-e.e-index in
    let l = c.loop-e.invariant in
    let put = c.put_entry-next.ensures in
    let w = size_within es k blank_entry c.loop-e-test.true in
    record {
      place = place_next es k blank_entry c.loop-e-test.true a.at c.loop-e.next _ l.place put.value;
      written = entries_next es k blank_entry c.loop-e-test.true a.spi a.at c.loop-e.next a.buffer.now _ _ (omega arith) l.place l.written put.buffer_after;
    }
