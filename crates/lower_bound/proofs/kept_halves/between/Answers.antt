use Rattle.std.proofs.Common.{[], ◌∷◌}
use Rattle.grid_base.specs.Walks.{InVertices}
use Rattle.label_search.specs.Sets.{IsEither}
use Rattle.least_weights.proofs.FewVertices.{least_alike, pair_vertices}
use Rattle.lower_bound.proofs.NearestPairs.{either_turned}
use Rattle.lower_bound.proofs.kept_halves.between.Goals as goal

pub returns-then-other-one-clause-least : goal.returns-then-other-one-clause-least
returns-then-other-one-clause-least g c =
    let s = g.W.Weights.size c.args.weights.now in
    let pieces = g.W.Weights.pieces c.args.weights.now in
    let a = c.args.one in
    let b = c.args.other in
    let n = c.kept_least.result in
    let turned = least_alike s pieces (IsEither b.0 a.0) (InVertices (b ∷ a ∷ [])) n (λ v. ((pair_vertices b a v).1, (pair_vertices b a v).0)) c.kept_least.ensures.least in
    least_alike s pieces (IsEither a.0 b.0) (IsEither b.0 a.0) n (either_turned a.0 b.0) turned

pub returns-clause-least : goal.returns-clause-least
returns-clause-least g c =
    let s = g.W.Weights.size c.args.weights.now in
    let pieces = g.W.Weights.pieces c.args.weights.now in
    let a = c.args.one in
    let b = c.args.other in
    least_alike s pieces (IsEither a.0 b.0) (InVertices (a ∷ b ∷ [])) c.kept_least-2.result (λ v. ((pair_vertices a b v).1, (pair_vertices a b v).0)) c.kept_least-2.ensures.least
