use Rattle.std.proofs.Common.{◌-◌}
use Rattle.grid_graph.specs.Floors.{floor_of}
use Rattle.landmarks.proofs.Lowered.{lowered_from, lowered_into}
use Rattle.landmarks.proofs.beyond_floors.BeyondFloorsWeights.allows.Goals as goal

pub returns : goal.returns
returns g c =
    let x = c.args.self.now in
    let pieces = g.W.Weights.pieces x.weights.now in (
      λ may. let at = c.allows.ensures.0 may in (at.0 - floor_of x.floors c.args.p, lowered_into pieces x.floors c.args.p at.0 at.1),
      λ at. let old = lowered_from pieces x.floors c.args.p at.0 at.1 in c.allows.ensures.1 (old.before, old.weighs),
    )
