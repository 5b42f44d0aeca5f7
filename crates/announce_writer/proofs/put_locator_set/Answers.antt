-- Its head, its entries and its padding stand one after another.
use Rattle.std.proofs.Common.{◌≡◌, ◌∙◌, arith}
use Rattle.announcement.specs.Entries.{set_size}
use Rattle.announcement.proofs.Sizes.{set_length}
use Rattle.announce_writer.proofs.Parts.{whole_units, set_written, set_beyond}
use Rattle.announce_writer.proofs.put_locator_set.Goals as goal

pub put_entries-end-requires : goal.put_entries-end-requires
put_entries-end-requires c =
    let a = c.args in
    grind (arith, c.set_size-size.ensures.value a.spi ∙ set_length a.spi a.list.now.entries.now)

pub put_padding-requires : goal.put_padding-requires
put_padding-requires c =
    let a = c.args in
    omega (arith, c.set_size-size.ensures.value a.spi ∙ set_length a.spi a.list.now.entries.now, whole_units a.list.now.entries.now)

pub returns-then-has_room : goal.returns-then-has_room
returns-then-has_room c =
    let a = c.args in
    let es = a.list.now.entries.now in
    let sized : c.set_size-size.result ≡ set_size es = c.set_size-size.ensures.value a.spi ∙ set_length a.spi es in
    set_written a.spi es c.set_size-size.result a.at _ a.buffer.now _ _ _ sized (grind arith) c.put_head.ensures
    c.put_entries-end.ensures.buffer_after c.put_entries-end.ensures.value c.put_padding.ensures

pub returns-else-has_room : goal.returns-else-has_room
returns-else-has_room c =
    let a = c.args in
    set_beyond a.spi a.list.now.entries.now c.set_size-size.result (c.set_size-size.ensures.value a.spi) a.at a.buffer.now (grind arith)
