-- Its three parameters stand one after another.
use Rattle.std.proofs.Common.{arith}
use Rattle.announcement.proofs.Sizes.{announcement_length}
use Rattle.announce.proofs.Sent.{announcement_written}
use Rattle.announce.proofs.write_announcement.Goals as goal

pub returns : goal.returns
returns c =
    let a = c.args in
    let es = a.list.now.entries.now in
    let l = announcement_length a.a.now es a.inbound a.keymat in
    announcement_written a.a.now es a.inbound a.keymat a.size _ a.buffer.now _ _ _ (omega arith) (omega arith) (omega arith)
    c.put_esp_info.ensures c.put_locator_set.ensures c.put_number.ensures
