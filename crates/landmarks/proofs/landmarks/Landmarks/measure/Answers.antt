use Rattle.std.proofs.Common.{[], ◌∷◌, ◌∙◌, subst, arith}
use Rattle.landmarks.specs.Numbers.{RiseSlowly}
use Rattle.landmarks.proofs.Rising.{one_more}
use Rattle.landmarks.proofs.landmarks.Landmarks.measure.Goals as goal

pub loop-landmark-preserved : goal.loop-landmark-preserved
loop-landmark-preserved g c =
    let w = c.args.weights.now in
    let s = g.W.Weights.size w in
    let before = c.loop-landmark.invariant in
    let from = c.farthest-from.result in
    let sized = c.size-size.ensures ∙ c.requires.size in
    record {
      long = c.write.ensures.long ∙ before.long;
      floors = c.write.ensures.floors ∙ before.floors;
      rise = one_more s (g.W.Weights.pieces w) (from ∷ from ∷ []) c.search_from.new.labels c.loop-landmark.landmark
          c.loop-landmark.self.numbers.items c.write.new.self.numbers.items
          (c.write.ensures.long ∙ before.long ∙ c.requires.long) c.search_from.ensures.table
          (λ v vertex. c.write.ensures.written v (rw sized vertex)) c.write.ensures.others before.rise;
      sized = c.search_from.ensures.size ∙ before.sized;
      room = c.search_from.ensures.masks ∙ before.room;
    }

pub returns-clause-rise : goal.returns-clause-rise
returns-clause-rise g c =
    let w = c.args.weights.now in
    subst (λ n. RiseSlowly (g.W.Weights.size w) (g.W.Weights.pieces w) n c.loop-landmark.self.numbers.items)
    (omega (arith, c.loop-landmark-test.false, c.loop-landmark.auto.landmark-end)) c.loop-landmark.invariant.rise
