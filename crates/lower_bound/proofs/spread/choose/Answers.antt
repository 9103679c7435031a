use Rattle.std.proofs.Common.{min, refl, ◌<◌, List, length, take, sym, ◌∙◌, subst, ⊎_elim, arith}
use Rattle.std.proofs.lemmas.List.{take-set-le, length-set}
use Rattle.grid_base.specs.declared.vertex.Vertex.{Vertex}
use Rattle.grid_base.specs.Numbers.{IsVertex}
use Rattle.lower_bound.specs.Spread.{IsNext}
use Rattle.lower_bound.proofs.Filling.{at_set, spread_filled}
use Rattle.lower_bound.proofs.spread.choose.Goals as goal

pub loop-place-preserved : goal.loop-place-preserved
loop-place-preserved c =
    let old = c.loop-place.chosen in
    let k = c.loop-place.place in
    let x = c.next.result in
    let low : k < length old = omega (arith, c.loop-place.invariant.long, c.loop-place-test.true, c.min-count.ensures) in
    record {
      long = length-set old k x ∙ c.loop-place.invariant.long;
      vertices = λ i v below at. ⊎_elim
          (λ here. subst (λ (w : Vertex). IsVertex c.args.size w.0) (sym here.1) c.next.ensures.vertex)
          (λ other. c.loop-place.invariant.vertices i v (omega (arith, below, other.0)) other.1)
          (at_set old k i x v low at);
      each = λ i t below at. subst (λ (chosen : List Vertex). IsNext c.args.size c.args.terminals.now chosen t) (sym (take-set-le i old k x (omega (arith, below)))) (⊎_elim
          (λ here. subst (λ j. IsNext c.args.size c.args.terminals.now (take j old) t) (sym here.0) (subst (λ w. IsNext c.args.size c.args.terminals.now (take k old) w) (sym here.1) c.next.ensures.next))
          (λ other. c.loop-place.invariant.each i t (omega (arith, below, other.0)) other.1)
          (at_set old k i x t low at));
    }

pub returns-clause-spread : goal.returns-clause-spread
returns-clause-spread c = spread_filled c.args.size c.args.terminals.now c.loop-place.chosen (min 5 (length c.args.terminals.now)) c.loop-place.invariant.long refl
    (λ i t low at. c.loop-place.invariant.each i t (omega (arith, low, c.loop-place-test.false, c.min-count.ensures)) at)
