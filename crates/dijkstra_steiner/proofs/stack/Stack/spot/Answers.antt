use Rattle.dijkstra_steiner.proofs.OnStack.{spot_on}
use Rattle.dijkstra_steiner.proofs.stack.Stack.spot.Goals as goal

pub returns-clause-spot : goal.returns-clause-spot
returns-clause-spot c = spot_on c.args.self.size c.args.self.flat c.args.mask c.args.at.vertex.0 c.vertices.result c.args.at.place
    c.args.self.is c.requires.some c.requires.room c.requires.at c.vertices.ensures
