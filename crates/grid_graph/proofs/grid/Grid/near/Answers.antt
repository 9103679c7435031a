use Rattle.grid_graph.specs.Grids.{size_of}
use Rattle.grid_base.proofs.Neighbours.{connects_neighbour, neighbours_connect}
use Rattle.grid_graph.proofs.grid.Grid.near.Goals as goal

pub returns-clause-connects : goal.returns-clause-connects
returns-clause-connects c = rw c.nth_step.ensures (neighbours_connect (size_of c.args.self.now) c.args.v.0 c.args.i c.requires)

pub returns-clause-every : goal.returns-clause-every
returns-clause-every c w p connects = connects_neighbour (size_of c.args.self.now) p c.args.v.0 w connects
