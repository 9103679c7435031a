use Rattle.std.proofs.Common.{◌≡◌, refl, arith}
use Rattle.grid_base.specs.declared.piece.Piece.{Piece}
use Rattle.grid_base.specs.Numbers.{start_of}
use Rattle.brought_bounds.specs.TableWords.{table_number, RisesAlong}
use Rattle.brought_bounds.proofs.Along.{slowly, up_to}
use Rattle.brought_bounds.proofs.rising.row_rises.Goals as goal

pub returns-then-not-rises_from : goal.returns-then-not-rises_from
returns-then-not-rises_from g c = (λ no. absurd (cc no), λ slow. c.if-not-rises_from.ensures.1 (λ p starts. slow p))

pub loop-v-preserved : goal.loop-v-preserved
loop-v-preserved g c =
    up_to (λ v. (p : Piece) → start_of p ≡ v → RisesAlong c.args.size (g.W.Weights.pieces c.args.weights.now)
    (table_number c.args.rows.now c.args.mask) p) c.loop-v.v c.loop-v.invariant (c.if-not-rises_from.ensures.0 refl)

pub returns : goal.returns
returns g c = (
  λ yes. slowly c.args.size (g.W.Weights.pieces c.args.weights.now) (table_number c.args.rows.now c.args.mask)
      (λ v is. c.loop-v.invariant v (omega (arith, is, c.loop-v-test.false, c.vertices-v-end.ensures))),
  λ slow. refl,
)
