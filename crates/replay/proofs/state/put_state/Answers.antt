-- `replay::state::put_state` meets its contract: its texts one after another. Assumes nothing.
use Rattle.lines.proofs.Joined.{after}
use Rattle.lines.specs.State.{state_text}
use Rattle.replay.proofs.state.put_state.Goals as goal

pub returns : goal.returns
unfolding state_text
returns c = after c.put_head.ensures c.put_slots.ensures
