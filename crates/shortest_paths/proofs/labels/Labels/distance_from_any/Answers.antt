use Rattle.std.proofs.Common.{◌≡◌, ◌^◌}
use Rattle.std.proofs.lemmas.List.Elements.{All-weaker}
use Rattle.grid_base.specs.declared.vertex.Vertex.{Vertex}
use Rattle.label_search.specs.Rows.{number_in}
use Rattle.label_search.specs.Searches.{IsLow}
use Rattle.label_search.proofs.Starts.{sources_settled}
use Rattle.shortest_paths.proofs.Sources.{fallen_from_any}
use Rattle.shortest_paths.proofs.labels.Labels.distance_from_any.Goals as goal

pub settle-requires-clause-settled : goal.settle-requires-clause-settled
settle-requires-clause-settled g c =
    let w = c.args.weights.now in
    sources_settled (g.W.Weights.size w) (g.W.Weights.pieces w) (g.B.Bound.rest c.args.bound.now) (2 ^ 62) c.args.sources.now c.start.new.self.row c.start.ensures.started

pub returns-clause-low : goal.returns-clause-low
returns-clause-low g c =
    let w = c.args.weights.now in
    let s = g.W.Weights.size w in
    let pieces = g.W.Weights.pieces w in
    let old = c.start.new.self.row in
    let new = c.settle.new.row in
    All-weaker (λ (v : Vertex). number_in old v.0 ≡ 0) (λ (v : Vertex). IsLow s pieces v.0 (number_in new) c.args.goal.0)
    (λ v zero. c.settle.ensures.low v.0 zero) c.args.sources.now c.start.ensures.zero

pub returns-clause-from : goal.returns-clause-from
returns-clause-from g c = λ v low.
    let w = c.args.weights.now in
    fallen_from_any (g.W.Weights.size w) (g.W.Weights.pieces w) c.args.sources.now c.start.new.self.row c.settle.new.row v c.start.ensures.started c.settle.ensures.fell low
