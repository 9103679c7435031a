use Rattle.std.proofs.Common.{◌<◌, ℕ, ap, arith}
use Rattle.seed_streams.specs.DrawnStreams.{DrawnStream}
use Rattle.std.proofs.lemmas.List.Sorted.{All-permutation, IsPermutation-trans}
use Rattle.negotiation.proofs.drawn.shuffle.Goals as goal

pub draw-drawn-requires-clause-left : goal.draw-drawn-requires-clause-left
draw-drawn-requires-clause-left c = omega (arith, c.loop-last.invariant.drawn, c.loop-last-test.true, c.loop-last.auto.last-end, c.requires.few)

pub returns-clause-below : goal.returns-clause-below
returns-clause-below c = λ limit below. All-permutation (λ (net : ℕ). net < limit) c.args.nets.now c.loop-last.nets c.loop-last.invariant.same below

pub loop-last-preserved : goal.loop-last-preserved
loop-last-preserved c = record {
  same = IsPermutation-trans c.args.nets.now c.loop-last.nets c.swap.new.self c.loop-last.invariant.same c.swap.ensures.permutation;
  drawn = omega (arith, ap (λ (w : DrawnStream). w.count) c.draw-drawn.ensures.drawn, c.loop-last.invariant.drawn);
}
