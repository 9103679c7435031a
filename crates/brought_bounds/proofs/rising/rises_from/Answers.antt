use Rattle.std.proofs.Common.{◌/◌, arith, refl, ◌∙◌, ap, subst}
use Rattle.grid_base.specs.declared.edge.Edge.{Edge as EdgeNumber}
use Rattle.grid_base.specs.declared.piece.Piece.{Piece}
use Rattle.grid_base.specs.declared.piece.Piece.TheVariants.{Edge}
use Rattle.grid_base.specs.Numbers.{to_next_layer}
use Rattle.brought_bounds.specs.TableWords.{table_number, RisesAlong}
use Rattle.brought_bounds.proofs.Along.{from_vertex}
use Rattle.brought_bounds.proofs.rising.rises_from.Goals as goal

pub returns-then-not-rises_along : goal.returns-then-not-rises_along
returns-then-not-rises_along g c = (
  λ no. absurd (cc no),
  λ all. c.if-not-rises_along.ensures.1 (all (Edge c.along.result)
      (ap (λ (e : EdgeNumber). e.0 / 2) c.along.ensures ∙ omega arith)),
)

pub returns-then-not-rises_along-2 : goal.returns-then-not-rises_along-2
returns-then-not-rises_along-2 g c = (
  λ no. absurd (cc no),
  λ all. c.if-not-rises_along-2.ensures.1 (all (Edge c.along-2.result)
      (ap (λ (e : EdgeNumber). e.0 / 2) c.along-2.ensures ∙ omega arith)),
)

pub returns : goal.returns
returns g c =
    let R : Piece → Type 0 = RisesAlong c.args.size (g.W.Weights.pieces c.args.weights.now)
    (table_number c.args.rows.now c.args.mask) in
    let v = c.args.v.0 in (
      λ last. from_vertex R v
          (subst (λ (e : EdgeNumber). R (Edge e)) c.along.ensures (c.if-not-rises_along.ensures.0 refl))
          (subst (λ (e : EdgeNumber). R (Edge e)) c.along-2.ensures (c.if-not-rises_along-2.ensures.0 refl))
          (c.rises_along-3.ensures.0 last),
      λ all. c.rises_along-3.ensures.1 (all (to_next_layer v) refl),
    )
