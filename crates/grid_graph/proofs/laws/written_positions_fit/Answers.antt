use Rattle.grid_graph.proofs.Borders.{position_in_range}
use Rattle.grid_graph.proofs.laws.written_positions_fit.Goals as goal

pub returns-clause-x : goal.returns-clause-x
returns-clause-x c = λ g v near vertex. (position_in_range g v near vertex).0

pub returns-clause-y : goal.returns-clause-y
returns-clause-y c = λ g v near vertex. (position_in_range g v near vertex).1
