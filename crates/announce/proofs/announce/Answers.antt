-- The call ends as the refusals in order come out.
use Rattle.std.proofs.Common.{length}
use Rattle.announce.proofs.Ends.{judged_ends, judged_allows}
use Rattle.announce.proofs.announce.Goals as goal

pub write_announcement-requires-clause-next_lt_id_limit :
    goal.write_announcement-requires-clause-next_lt_id_limit
write_announcement-requires-clause-next_lt_id_limit c =
    let a = c.args in
    (judged_allows a.a a.count a.inbound a.keymat (length a.buffer.now) _ _ _ (c.judge.ensures a.keymat) c.in-Ok.is).id_left

pub write_announcement-requires-clause-size_value :
    goal.write_announcement-requires-clause-size_value
write_announcement-requires-clause-size_value c =
    let a = c.args in
    let allowed = judged_allows a.a a.count a.inbound a.keymat (length a.buffer.now) _ _ _ (c.judge.ensures a.keymat) c.in-Ok.is in
    (allowed.size_is, allowed.fits)

pub after_announcement-requires : goal.after_announcement-requires
after_announcement-requires c =
    let a = c.args in
    (judged_allows a.a a.count a.inbound a.keymat (length a.buffer.now) _ _ _ (c.judge.ensures a.keymat) c.in-Ok.is).id_left

pub returns-in-Err-clause-value : goal.returns-in-Err-clause-value
returns-in-Err-clause-value c =
    let a = c.args in
    rw (judged_ends a.a a.count a.inbound a.keymat (length a.buffer.now) a.list _ _ c.first_entries-own.ensures (c.judge.ensures a.keymat), c.in-Err.is)

pub returns-in-Err-clause-buffer_after : goal.returns-in-Err-clause-buffer_after
returns-in-Err-clause-buffer_after c =
    let a = c.args in
    rw (judged_ends a.a a.count a.inbound a.keymat (length a.buffer.now) a.list _ _ c.first_entries-own.ensures (c.judge.ensures a.keymat), c.in-Err.is)
