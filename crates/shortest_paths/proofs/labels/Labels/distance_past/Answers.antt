use Rattle.std.proofs.Common.{◌^◌, ◌∙◌, arith}
use Rattle.label_search.specs.Rows.{number_in}
use Rattle.label_search.proofs.Starts.{sources_settled}
use Rattle.shortest_paths.proofs.Distances.{fallen_reached, distance_of_least}
use Rattle.shortest_paths.proofs.labels.Labels.distance_past.Goals as goal

pub settle-requires-clause-settled : goal.settle-requires-clause-settled
settle-requires-clause-settled g c =
    let w = c.args.weights.now in
    sources_settled (g.W.Weights.size w) (g.W.Weights.pieces w) (g.B.Bound.rest c.args.bound.now) (2 ^ 62) _ c.start.new.self.row
    c.start.ensures.started

pub returns-clause-goal : goal.returns-clause-goal
returns-clause-goal g c =
    let w = c.args.weights.now in
    let s = g.W.Weights.size w in
    let pieces = g.W.Weights.pieces w in
    let begun = c.start.ensures in
    let source = c.args.source in
    distance_of_least s pieces source.0 c.args.goal.0 (number_in c.settle.new.row) (g.met.W.Weights.inside w) (g.met.W.Weights.small w)
    (fallen_reached s pieces source c.start.new.self.row c.settle.new.row (begun.size ∙ c.requires.size) c.requires.source begun.zero
    begun.started c.settle.ensures.fell)
    (c.settle.ensures.low source.0 (begun.zero 0 source (omega arith)))

pub returns-clause-back : goal.returns-clause-back
returns-clause-back g c =
    let w = c.args.weights.now in
    let begun = c.start.ensures in
    let fell = c.settle.ensures.fell in
    let size = begun.size ∙ c.requires.size in
    record {
      size = fell.found.size ∙ size;
      behind = (fallen_reached (g.W.Weights.size w) (g.W.Weights.pieces w) c.args.source c.start.new.self.row c.settle.new.row size
          c.requires.source begun.zero begun.started fell).behind;
    }

pub returns-clause-known : goal.returns-clause-known
returns-clause-known g c = c.settle.ensures.known _ (omega (arith, c.min.ensures)) (omega (arith, c.min.ensures))

pub returns-clause-start : goal.returns-clause-start
returns-clause-start g c =
    let begun = c.start.ensures.zero 0 c.args.source (omega arith) in
    omega (arith, begun, c.settle.ensures.fell.falls c.args.source.0)
