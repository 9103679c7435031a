use Rattle.lower_bound.proofs.Mapped.{raised_floors}
use Rattle.lower_bound.proofs.extra.ExtraFlooredWeights.floors.Goals as goal

pub returns-clause-below : goal.returns-clause-below
returns-clause-below g c = let x = c.args.self.now in raised_floors (g.W.Weights.pieces x.weights) x.piece c.from-floor.result c.from-floor.ensures
