use Rattle.std.proofs.Common.{ℕ, ◌+◌, arith}
use Rattle.std.proofs.lemmas.List.Sums.{sum_by-take-le}
use Rattle.grid_base.specs.declared.piece.Piece.{Piece}
use Rattle.label_search.proofs.Sets.{weight-most}
use Rattle.steiner_span.proofs.WeighedTrees.{tree_set, has_next}
use Rattle.steiner_span.proofs.weighing.weight_of.Goals as goal

pub overflow_add-sum : goal.overflow_add-sum
overflow_add-sum g c =
    let w = c.args.weights.now in
    let pieces = g.W.Weights.pieces w in
    let n = c.loop-piece.piece-index in
    let own = tree_set pieces c.args.tree.now c.requires.rising c.requires.allowed in
    let next = has_next pieces own.set c.args.tree.now n own.of own.is_set c.loop-piece-test.true in
    omega (
      arith,
      c.loop-piece.invariant.sum own.set own.of own.is_set,
      c.weight-sum.ensures.value next.0 (next.1.weighs _),
      next.1.more,
      sum_by-take-le (λ (x : Piece × ℕ). x.1) own.set (n + 1),
      weight-most (g.W.Weights.size w) pieces own.set (g.met.W.Weights.inside w) (g.met.W.Weights.small w) own.is_set,
    )

pub loop-piece-preserved : goal.loop-piece-preserved
loop-piece-preserved g c = record {
  sum = λ set of is.
      let next = has_next (g.W.Weights.pieces c.args.weights.now) set c.args.tree.now c.loop-piece.piece-index of is c.loop-piece-test.true in
      omega (arith, c.loop-piece.invariant.sum set of is, c.weight-sum.ensures.value next.0 (next.1.weighs _), next.1.more);
}
