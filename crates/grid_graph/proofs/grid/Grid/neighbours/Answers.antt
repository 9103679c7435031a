use Rattle.grid_graph.specs.Grids.{size_of}
use Rattle.grid_base.proofs.Neighbours.{all_lead, connects_listed}
use Rattle.grid_graph.proofs.grid.Grid.neighbours.Goals as goal

pub returns-clause-connects : goal.returns-clause-connects
returns-clause-connects c = rw c.steps.ensures (all_lead (size_of c.args.self.now) c.args.v.0 c.requires)

pub returns-clause-every : goal.returns-clause-every
returns-clause-every c w p connects = rw c.steps.ensures (connects_listed (size_of c.args.self.now) p c.args.v.0 w connects)
