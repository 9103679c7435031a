-- A net bound is low.
use Rattle.lower_bound.proofs.LowBounds.{net_bound_low}
use Rattle.lower_bound.proofs.laws.net_bounds_are_low.Goals as goal

pub returns : goal.returns
returns c pieces bound set are is is_set joins = net_bound_low c.args.size.now pieces c.args.terminals.now bound are is set is_set joins
