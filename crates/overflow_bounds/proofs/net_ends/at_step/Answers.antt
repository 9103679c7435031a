use Rattle.overflow_bounds.proofs.EvenSteps.{taken_apart}
use Rattle.overflow_bounds.proofs.net_ends.at_step.Goals as goal

pub returns : goal.returns
returns c = taken_apart c.args.step c.args.last
