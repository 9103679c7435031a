use Rattle.lower_bound.proofs.CostLists.{costs_floors, costs_tile_floors}
use Rattle.lower_bound.proofs.tile_costs.TileCostsFlooredWeights.floors.Goals as goal

pub returns-clause-below : goal.returns-clause-below
returns-clause-below c = let x = c.args.self.now in costs_floors x.size x.costs.items x.floors x.known

pub returns-clause-tiles : goal.returns-clause-tiles
returns-clause-tiles c = let x = c.args.self.now in costs_tile_floors x.size x.costs.items x.floors x.known
