use Rattle.std.proofs.Common.{◌-◌, ◌*◌}
use Rattle.dijkstra_steiner.proofs.OnStack.{under_spot, under_number}
use Rattle.dijkstra_steiner.proofs.stack.Stack.under.Goals as goal

pub returns-clause-spot : goal.returns-clause-spot
returns-clause-spot c =
    under_spot c.args.self.size c.args.self.flat c.args.at.vertex.0
    (c.args.at.vertex.0 - c.args.at.place.layer * c.vertices.result) c.args.at.place c.args.self.is c.requires
    (under_number c.args.self.size c.args.self.flat c.args.at.vertex.0 c.vertices.result c.args.at.place c.args.self.is c.requires
    c.vertices.ensures)

pub returns-clause-vertex : goal.returns-clause-vertex
returns-clause-vertex c =
    under_number c.args.self.size c.args.self.flat c.args.at.vertex.0 c.vertices.result c.args.at.place c.args.self.is c.requires
    c.vertices.ensures
