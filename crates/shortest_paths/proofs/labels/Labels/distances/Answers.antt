use Rattle.std.proofs.Common.{◌^◌, ◌∙◌, arith}
use Rattle.std.proofs.lemmas.List.Elements.{All-weaker}
use Rattle.grid_base.specs.declared.vertex.Vertex.{Vertex}
use Rattle.label_search.specs.Founds.{index_in}
use Rattle.label_search.specs.Rows.{number_in}
use Rattle.label_search.specs.Searches.{IsLow}
use Rattle.label_search.specs.Sets.{IsDistance}
use Rattle.label_search.specs.Stamped.{far}
use Rattle.label_search.proofs.LeastNumbers.{least_of_all}
use Rattle.label_search.proofs.Starts.{sources_settled}
use Rattle.steiner_tables.specs.Tables.{answer_at}
use Rattle.shortest_paths.proofs.Distances.{fallen_reached, distance_of_least}
use Rattle.shortest_paths.proofs.labels.Labels.distances.Goals as goal

pub exhaust-requires-clause-settled : goal.exhaust-requires-clause-settled
exhaust-requires-clause-settled g c =
    let w = c.args.weights.now in
    sources_settled (g.W.Weights.size w) (g.W.Weights.pieces w) (λ v. 0) (2 ^ 62) _ c.start.new.self.row c.start.ensures.started

pub settle_each-requires-clause-settled : goal.settle_each-requires-clause-settled
settle_each-requires-clause-settled g c =
    let w = c.args.weights.now in
    sources_settled (g.W.Weights.size w) (g.W.Weights.pieces w) (λ v. 0) (2 ^ 62) _ c.start.new.self.row c.start.ensures.started

pub returns-then-is_empty-clause-all : goal.returns-then-is_empty-clause-all
returns-then-is_empty-clause-all g c = λ none v vertex.
    let w = c.args.weights.now in
    let s = g.W.Weights.size w in
    let pieces = g.W.Weights.pieces w in
    let begun = c.start.ensures in
    let new = c.exhaust.new.row in
    let fell = c.exhaust.ensures.fell in
    let source = c.args.source in
    distance_of_least s pieces source.0 v (number_in new) (g.met.W.Weights.inside w) (g.met.W.Weights.small w)
    (fallen_reached s pieces source c.start.new.self.row new (begun.size ∙ c.requires.size) c.requires.source begun.zero begun.started fell)
    (least_of_all s pieces (number_in new) (λ _. 0) (2 ^ 62) (λ _. ⊥) source.0 v (λ p k a b weighs connects. omega arith)
    (λ u waits. c.exhaust.ensures.relaxed u) (λ u waits. absurd waits) (omega (arith, new.parts.limits (index_in new.found v)))
    (omega (arith, begun.zero 0 source (omega arith), fell.falls source.0)))

pub returns-then-is_empty-clause-back : goal.returns-then-is_empty-clause-back
returns-then-is_empty-clause-back g c =
    let w = c.args.weights.now in
    let begun = c.start.ensures in
    let fell = c.exhaust.ensures.fell in
    let size = begun.size ∙ c.requires.size in
    record {
      size = fell.found.size ∙ size;
      behind = (fallen_reached (g.W.Weights.size w) (g.W.Weights.pieces w) c.args.source c.start.new.self.row c.exhaust.new.row size
          c.requires.source begun.zero begun.started fell).behind;
    }

pub returns-else-is_empty-clause-stops : goal.returns-else-is_empty-clause-stops
returns-else-is_empty-clause-stops g c =
    let w = c.args.weights.now in
    let s = g.W.Weights.size w in
    let pieces = g.W.Weights.pieces w in
    let begun = c.start.ensures in
    let num = number_in c.settle_each.new.row in
    let source = c.args.source in
    All-weaker (λ (v : Vertex). IsLow s pieces source.0 num v.0) (λ v. IsDistance s pieces source.0 v.0 (answer_at far (num v.0)))
    (λ v low. distance_of_least s pieces source.0 v.0 num (g.met.W.Weights.inside w) (g.met.W.Weights.small w)
    (fallen_reached s pieces source c.start.new.self.row c.settle_each.new.row (begun.size ∙ c.requires.size) c.requires.source begun.zero
    begun.started c.settle_each.ensures.fell) low)
    c.args.stop.now (c.settle_each.ensures.low source.0 (begun.zero 0 source (omega arith)))

pub returns-else-is_empty-clause-back : goal.returns-else-is_empty-clause-back
returns-else-is_empty-clause-back g c =
    let w = c.args.weights.now in
    let begun = c.start.ensures in
    let fell = c.settle_each.ensures.fell in
    let size = begun.size ∙ c.requires.size in
    record {
      size = fell.found.size ∙ size;
      behind = (fallen_reached (g.W.Weights.size w) (g.W.Weights.pieces w) c.args.source c.start.new.self.row c.settle_each.new.row size
          c.requires.source begun.zero begun.started fell).behind;
    }
