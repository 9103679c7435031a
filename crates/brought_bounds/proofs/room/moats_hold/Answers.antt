use Rattle.std.proofs.Common.{length, refl, sym, ◌∙◌, ap, subst, arith}
use Rattle.grid_base.specs.declared.size.Size.{Size}
use Rattle.grid_graph.specs.Weighed.{WeighsOnlyPieces}
use Rattle.brought_bounds.specs.MoatWords.{IsApart}
use Rattle.lower_bound.specs.Moats.{AreMoats}
use Rattle.brought_bounds.proofs.Along.{up_to}
use Rattle.brought_bounds.proofs.Apart.{moats_apart}
use Rattle.lower_bound.proofs.Crossing.{moats_within}
use Rattle.brought_bounds.proofs.room.moats_hold.Goals as goal

pub returns-then-not-is_apart-clause-holds : goal.returns-then-not-is_apart-clause-holds
returns-then-not-is_apart-clause-holds g c =
    let pieces = g.W.Weights.pieces c.args.weights.now in
    let terminals = c.args.terminals.now in
    let place = c.loop-place.place in (
      λ no. absurd (cc no),
      λ (are : AreMoats c.args.size pieces terminals c.args.moats.now.radii).
          let apart : IsApart c.args.size pieces terminals c.args.moats.now.radii place =
          λ other a b r q. are.apart place other a b r q in
          c.if-not-is_apart.ensures.apart.1 (subst (λ (s : Size). IsApart s pieces terminals c.list-radii.result.now place)
          c.requires.size
          (subst (λ rs. IsApart c.args.size pieces terminals rs place) (sym c.list-radii.ensures) apart)),
    )

pub loop-place-preserved : goal.loop-place-preserved
loop-place-preserved g c =
    let pieces = g.W.Weights.pieces c.args.weights.now in
    let terminals = c.args.terminals.now in
    let place = c.loop-place.place in
    record {
      size = c.is_apart.ensures.size ∙ c.loop-place.invariant.size;
      masks = c.is_apart.ensures.masks ∙ c.loop-place.invariant.masks;
      apart = up_to (IsApart c.args.size pieces terminals c.args.moats.now.radii) place c.loop-place.invariant.apart
          (subst (λ (s : Size). IsApart s pieces terminals c.args.moats.now.radii place) (sym c.requires.size)
          (subst (λ rs. IsApart (g.W.Weights.size c.args.weights.now) pieces terminals rs place) c.list-radii.ensures
          (c.if-not-is_apart.ensures.apart.0 refl)));
    }

pub returns-clause-holds : goal.returns-clause-holds
returns-clause-holds g c =
    let pieces = g.W.Weights.pieces c.args.weights.now in (
      λ holds. moats_apart c.args.size pieces c.args.terminals.now c.args.moats.now.radii
          (ap length (sym c.list-radii.ensures) ∙ c.if-radii-terminals.false)
          (λ place low. c.loop-place.invariant.apart place (omega (arith, low, c.loop-place-test.false))),
      λ are. refl,
    )

pub returns-clause-bound : goal.returns-clause-bound
returns-clause-bound g c holding two set is joins =
    let pieces = g.W.Weights.pieces c.args.weights.now in
    moats_within c.args.size pieces set c.args.terminals.now c.args.moats.now.radii
    (subst (λ (s : Size). WeighsOnlyPieces s pieces) (sym c.requires.size) (g.met.W.Weights.inside c.args.weights.now))
    ((returns-clause-holds g c).0 holding) two is joins
