use Rattle.std.proofs.Common.{List, All, length, ◌∙◌, ap, sym, subst, arith}
use Rattle.grid_base.specs.declared.size.Size.{Size}
use Rattle.grid_base.specs.declared.vertex.Vertex.{Vertex}
use Rattle.grid_base.specs.Numbers.{IsVertex}
use Rattle.grid_base.specs.declared.piece.Piece.{Piece}
use Rattle.grid_graph.specs.Weighed.{IsAllowed}
use Rattle.steiner_exact.specs.LeastSets.{IsLeastTree}
use Rattle.steiner_exact.proofs.LeastSets.{none_tree, ordered_tree, ordered_joined}
use Rattle.std.proofs.lemmas.List.Sorted.{length_permutation}
use Rattle.grid_base.specs.Walks.{Joins, InVertices}
use Rattle.steiner_exact.proofs.TwoTerminals.{joined_vertices}
use Rattle.steiner_exact.proofs.trees.least_tree.Goals as goal

pub returns-then-terminals-lt2-clause-tree : goal.returns-then-terminals-lt2-clause-tree
returns-then-terminals-lt2-clause-tree g c =
    let s = g.W.Weights.size c.args.weights.now in
    let pieces = g.W.Weights.pieces c.args.weights.now in
    let terminals = c.args.terminals.now in
    subst (λ (tree : List Piece). IsLeastTree s pieces terminals tree 0) (sym c.empty.ensures.none)
    (none_tree s pieces terminals c.if-terminals-lt2.true (joined_vertices s (IsAllowed pieces) terminals c.requires.joined))

pub with_far_root-requires-clause-terminals : goal.with_far_root-requires-clause-terminals
with_far_root-requires-clause-terminals g c =
    subst (λ (x : Size). All (λ (v : Vertex). IsVertex x v.0) c.args.terminals.now) (sym (c.size.ensures ∙ c.requires.labels.grid))
    (joined_vertices (g.W.Weights.size c.args.weights.now) (IsAllowed (g.W.Weights.pieces c.args.weights.now)) c.args.terminals.now c.requires.joined)

pub least_of_several-requires-clause-terminals : goal.least_of_several-requires-clause-terminals
least_of_several-requires-clause-terminals g c =
    let s = g.W.Weights.size c.args.weights.now in
    let F = IsAllowed (g.W.Weights.pieces c.args.weights.now) in
    let same = c.as_slice.ensures.value in
    joined_vertices s F c.as_slice.result.now
    (subst (λ (ts : List Vertex). Joins s F (InVertices ts)) (sym same) (ordered_joined s F c.args.terminals.now c.in_ok-ordered.ordered.items c.in_ok-ordered.ensures c.requires.joined))

pub least_of_several-requires-clause-two : goal.least_of_several-requires-clause-two
least_of_several-requires-clause-two g c =
    let long = length_permutation c.args.terminals.now c.in_ok-ordered.ordered.items c.in_ok-ordered.ensures in
    let same = ap (λ (ts : List Vertex). length ts) c.as_slice.ensures.value in
    omega (arith, long, same, c.if-terminals-lt2.false)

pub least_of_several-requires-clause-few : goal.least_of_several-requires-clause-few
least_of_several-requires-clause-few g c =
    let long = length_permutation c.args.terminals.now c.in_ok-ordered.ordered.items c.in_ok-ordered.ensures in
    let same = ap (λ (ts : List Vertex). length ts) c.as_slice.ensures.value in
    omega (arith, long, same, c.requires.few)

pub least_of_several-requires-clause-joined : goal.least_of_several-requires-clause-joined
least_of_several-requires-clause-joined g c =
    let s = g.W.Weights.size c.args.weights.now in
    let F = IsAllowed (g.W.Weights.pieces c.args.weights.now) in
    subst (λ (ts : List Vertex). Joins s F (InVertices ts)) (sym c.as_slice.ensures.value) (ordered_joined s F c.args.terminals.now c.in_ok-ordered.ordered.items c.in_ok-ordered.ensures c.requires.joined)

pub returns-clause-tree : goal.returns-clause-tree
returns-clause-tree g c =
    let s = g.W.Weights.size c.args.weights.now in
    let pieces = g.W.Weights.pieces c.args.weights.now in
    let found = c.in_ok-found.found in
    ordered_tree s pieces c.args.terminals.now c.in_ok-ordered.ordered.items found.0 found.1 c.in_ok-ordered.ensures
    (subst (λ (ts : List Vertex). IsLeastTree s pieces ts found.0 found.1) c.as_slice.ensures.value c.in_ok-found.ensures.tree)
