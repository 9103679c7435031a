use Rattle.std.proofs.Common.{◌≡◌, ◌+◌, ℕ, List, Option, refl, sym, subst, arith}
use Rattle.std.specs.Option.{IfSome}
use Rattle.std.proofs.lemmas.Bool.Decides.{nat_tests}
use Rattle.grid_base.specs.declared.piece.Piece.{Piece}
use Rattle.grid_base.specs.declared.vertex.Vertex.{Vertex}
use Rattle.grid_base.specs.Numbers.{IsVertex}
use Rattle.grid_base.proofs.Walks.{WalkBetween-sym}
use Rattle.grid_base.proofs.Pieces.{end_vertex}
use Rattle.grid_graph.specs.Weighed.{IsAllowed}
use Rattle.shortest_paths.specs.LabelWords.{labels_number}
use Rattle.label_search.specs.Paths.{IsPath, IsStepBack}
use Rattle.shortest_paths.proofs.Backwards.{path_more, path_back, path_set}
use Rattle.shortest_paths.proofs.Distances.{answer_found, distance_least}
use Rattle.steiner_tables.proofs.Pruned.{answer_at-some}
use Rattle.label_search.specs.Stamped.{far}
use Rattle.label_search.proofs.Sets.{joins_ends}
use Rattle.shortest_paths.proofs.labels.Labels.path_to.Goals as goal

pub loop-here-smaller : goal.loop-here-smaller
loop-here-smaller g c =
    let s = g.W.Weights.size c.args.weights.now in
    let pieces = g.W.Weights.pieces c.args.weights.now in
    let num = labels_number c.args.self.now in
    let back : IsStepBack s pieces num c.loop-here.here.0 c.unwrap-by.result.0.0 c.unwrap-by.result.1 =
    subst (λ (o : Option (Vertex × Piece)). IfSome o (λ x. IsStepBack s pieces num c.loop-here.here.0 x.0.0 x.1)) c.unwrap-by.ensures c.step_back.ensures.step in
    omega (arith, back.less, c.requires.positive c.unwrap-by.result.1 back.weight back.step.weighs)

pub loop-here-preserved : goal.loop-here-preserved
loop-here-preserved g c =
    let s = g.W.Weights.size c.args.weights.now in
    let pieces = g.W.Weights.pieces c.args.weights.now in
    let num = labels_number c.args.self.now in
    let before = c.loop-here.invariant in
    let by = c.unwrap-by.result.1 in
    let back : IsStepBack s pieces num c.loop-here.here.0 c.unwrap-by.result.0.0 by =
    subst (λ (o : Option (Vertex × Piece)). IfSome o (λ x. IsStepBack s pieces num c.loop-here.here.0 x.0.0 x.1)) c.unwrap-by.ensures c.step_back.ensures.step in
    record {
      vertex = end_vertex s by c.loop-here.here.0 c.unwrap-by.result.0.0 back.step.connects;
      found = omega (arith, back.less, before.found);
      walked = (
        before.walked.0 + back.weight,
        subst (λ (ps : List Piece). IsPath s pieces c.args.v.0 c.unwrap-by.result.0.0 (before.walked.0 + back.weight) ps) (sym c.in_ok-push.ensures.items)
            (path_more s pieces c.args.v.0 c.loop-here.here.0 c.unwrap-by.result.0.0 back.weight by c.loop-here.path.items before.walked.0 before.walked.1 back.step),
        omega (arith, back.less, before.walked.2),
      );
    }

pub loop-here-init : goal.loop-here-init
loop-here-init g c = record {
  vertex = c.requires.vertex;
  found = answer_found (labels_number c.args.self.now c.args.v.0) c.requires.joined;
  walked = (0, rw c.new-path.ensures.items (refl, refl), omega arith);
}

pub returns : goal.returns
returns g c =
    let s = g.W.Weights.size c.args.weights.now in
    let pieces = g.W.Weights.pieces c.args.weights.now in
    let source = c.args.self.now.source.0 in
    let n = labels_number c.args.self.now c.args.v.0 in
    let found = answer_found n c.requires.joined in
    let walked = c.loop-here.invariant.walked in
    let home : c.loop-here.here.0 ≡ source = grind (arith, nat_tests, c.loop-here-test.ensures) in
    let path : IsPath s pieces c.args.v.0 source walked.0 c.loop-here.path.items = subst (λ v. IsPath s pieces c.args.v.0 v walked.0 c.loop-here.path.items) home walked.1 in
    let vertex : IsVertex s source = subst (IsVertex s) home c.loop-here.invariant.vertex in
    let has = path_set s pieces c.args.v.0 source c.loop-here.path.items walked.0 vertex path in
    let least = distance_least s pieces source c.args.v.0 n c.requires.distance (omega (arith, found)) has.set has.is_set
    (joins_ends s (IsAllowed has.set) source c.args.v.0 (WalkBetween-sym s (IsAllowed has.set) c.args.v.0 source has.walk)) in
    let whole : walked.0 ≡ n = omega (arith, least, has.light, walked.2) in
    subst (λ (o : Option ℕ). IfSome o (λ d. IsPath s pieces source c.args.v.0 d c.reverse.new.self.items)) (sym (answer_at-some far n (omega (arith, found))))
    (subst (λ total. IsPath s pieces source c.args.v.0 total c.reverse.new.self.items) whole
    (subst (λ (ps : List Piece). IsPath s pieces source c.args.v.0 walked.0 ps) (sym c.reverse.ensures.items) (path_back s pieces c.args.v.0 source c.loop-here.path.items walked.0 path)))
