-- Moats that don't overlap are at most every joining set.
use Rattle.lower_bound.proofs.Crossing.{moats_within}
use Rattle.lower_bound.proofs.laws.moats_bound_sets.Goals as goal

pub returns : goal.returns
returns c pieces radii set are moats two is joins = moats_within c.args.size.now pieces set c.args.terminals.now radii are moats two is joins
