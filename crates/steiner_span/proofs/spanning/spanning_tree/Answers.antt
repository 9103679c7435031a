use Rattle.std.proofs.Common.{◌≡◌, ℕ, ◌≤◌, List, get_or, sym, ◌∙◌, subst, arith}
use Rattle.std.specs.List.{Contains}
use Rattle.std.proofs.lemmas.List.Elements.{Contains-get_or}
use Rattle.grid_base.specs.declared.piece.Piece.{Piece}
use Rattle.grid_base.specs.declared.vertex.Vertex.{Vertex}
use Rattle.grid_base.specs.Walks.{InPieces, InVertices}
use Rattle.grid_base.proofs.Joined.{Joins-superset}
use Rattle.label_search.specs.Sets.{weight}
use Rattle.shortest_paths.specs.Spanning.{links_weight}
use Rattle.steiner_span.specs.Growths.{AreLight}
use Rattle.steiner_span.proofs.Chains.{spanned_within_twice}
use Rattle.steiner_span.proofs.Spanned.{tree_spans}
use Rattle.steiner_span.proofs.WeighedTrees.{IsTreeSet, tree_set, total_within}
use Rattle.steiner_span.proofs.spanning.spanning_tree.Goals.{After-weight_of-weight}
use Rattle.steiner_span.proofs.spanning.spanning_tree.Goals as goal

pub weight_of-weight-requires-clause-allowed : goal.weight_of-weight-requires-clause-allowed
weight_of-weight-requires-clause-allowed g c = λ p at.
    c.in_ok-grow_tree.ensures.allowed p ((c.of-tree.ensures.same p).0 (subst (λ (ps : List Piece). Contains ps p) c.pieces.ensures.listed at))

-- the tree's pieces with their weights, the sum of which is answered, and what follows from a light list that has them
record IsAnswered (pieces : List (Piece × ℕ)) (tree grown : List Piece) (total : ℕ) : Type 0 where
  own : IsTreeSet pieces tree
  sum : total ≡ weight own.set
  within : (limit : ℕ) → AreLight pieces grown limit → total ≤ limit

answered : (g : _) (c : After-weight_of-weight g) → IsAnswered (g.W.Weights.pieces c.args.weights.now) c.of-tree.result c.in_ok-grow_tree.field-0.items c.weight_of-weight.result
answered g c =
    let w = c.args.weights.now in
    let pieces = g.W.Weights.pieces w in
    let tree = c.of-tree.result in
    let grown : (p : Piece) → Contains tree p → Contains c.in_ok-grow_tree.field-0.items p = λ p at. (c.of-tree.ensures.same p).0 at in
    let own = tree_set pieces tree c.of-tree.ensures.rising (λ p at. c.in_ok-grow_tree.ensures.allowed p (grown p at)) in
    let sum : c.weight_of-weight.result ≡ weight own.set = c.weight_of-weight.ensures own.set (own.of ∙ sym c.pieces.ensures.listed) own.is_set in
    record { own = own; sum = sum; within = λ limit light. total_within pieces tree c.in_ok-grow_tree.field-0.items c.weight_of-weight.result limit (g.met.W.Weights.once w) own sum grown light }

pub returns-clause-tree : goal.returns-clause-tree
returns-clause-tree g c =
    let s = g.W.Weights.size c.args.weights.now in
    let terminals = c.args.terminals.now in
    let all = answered g c in
    record {
      rising = c.of-tree.ensures.rising;
      joins = Joins-superset s (InPieces c.in_ok-grow_tree.field-0.items) (InPieces c.of-tree.result) (InVertices terminals) (λ p at. (c.of-tree.ensures.same p).1 at) c.in_ok-grow_tree.ensures.joins;
      set = all.own.set;
      of = all.own.of;
      is_set = all.own.is_set;
      weighs = sym all.sum;
      light = λ links is. all.within (links_weight links) (c.in_ok-grow_tree.ensures.light links (tree_spans s (g.W.Weights.pieces c.args.weights.now) terminals links is));
    }

pub returns-clause-twice : goal.returns-clause-twice
returns-clause-twice g c = λ set is joins.
    let w = c.args.weights.now in
    let terminals = c.args.terminals.now in
    let first : Vertex = get_or terminals 0 (record { 0 = 0 }) in
    let chain = spanned_within_twice (g.W.Weights.size w) (g.W.Weights.pieces w) terminals first.0 (g.met.W.Weights.inside w) (Contains-get_or terminals 0 (record { 0 = 0 }) c.requires.some) set is joins in
    omega (arith, (answered g c).within (links_weight chain.links) (c.in_ok-grow_tree.ensures.light chain.links chain.spans), chain.light)
