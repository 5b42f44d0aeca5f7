-- `replay::state::put_head` meets its contract: its texts one after another. Assumes nothing.
use Rattle.lines.proofs.Joined.{after}
use Rattle.lines.specs.State.{head_text}
use Rattle.replay.proofs.state.put_head.Goals as goal

pub returns : goal.returns
unfolding head_text
returns c = after c.put_numbers.ensures (after c.put_peer.ensures (after c.put_field.ensures (after c.put_preference.ensures c.put_word.ensures)))
