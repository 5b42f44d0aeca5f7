-- Below the limit of time the five steps are the definition's.
use Rattle.steps.proofs.Taken.{steps_taken}
use Rattle.steps.proofs.take_steps.Goals as goal

pub returns : goal.returns
returns c = search steps_taken
