-- What is left to a Move is the definition's, once steps 1 to 5 and the checks are.
use Rattle.accept.proofs.Parts.{left_after}
use Rattle.accept.proofs.after_move.Goals as goal

pub returns : goal.returns
returns c = search left_after
