use Rattle.std.proofs.Common.{List, ℕ, sym, subst, arith}
use Rattle.grid_base.specs.declared.piece.Piece.{Piece}
use Rattle.grid_base.specs.declared.size.Size.{Size}
use Rattle.grid_graph.specs.Flat.{AreLeastOver}
use Rattle.label_search.specs.Sets.{RisesSlowly}
use Rattle.steiner_exact.proofs.GoalRests.{goal_slow}
use Rattle.steiner_exact.proofs.goal_bound.GoalBound.new.Goals as goal

pub invariant_of-result : goal.invariant_of-result
invariant_of-result g c =
    let w = c.args.weights.now in
    let s = c.args.size in
    let pieces = g.W.Weights.pieces w in
    let over = g.W.FlooredWeights.over w in
    let flat = g.B.Bound.size c.args.across.now in
    let across = g.B.Bound.rest c.args.across.now in
    record {
      tiled = c.requires.tiled;
      low_layer = omega (arith, c.place_of.ensures.inside.2, s.within.layer_limit);
      low_via = c.floors.ensures.limits.vias;
      slow = goal_slow flat s pieces c.floors.result over across c.place_of.result.layer
          c.requires.tiled (subst (λ (x : Size). AreLeastOver x pieces over) (sym c.requires.size) (g.met.W.FlooredWeights.under w))
          c.floors.ensures.below
          (subst (λ (ps : List (Piece × ℕ)). RisesSlowly flat ps across) c.requires.across (g.met.B.Bound.slow c.args.across.now));
    }
