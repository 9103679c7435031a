use Rattle.std.proofs.Common.{arith}
use Rattle.grid_graph.specs.Limits.{max_weight}
use Rattle.label_search.proofs.FloorSteps.{floor_rest-slow, AreFloors-lowered}
use Rattle.label_search.proofs.floor_bound.FloorBound.new.Goals as goal

pub invariant_of-result : goal.invariant_of-result
invariant_of-result g c =
    let pieces = g.W.Weights.pieces c.args.weights.now in
    let cut = c.lowered.ensures in
    let low = AreFloors-lowered c.lowered.result c.args.floors max_weight pieces
    (record { x = cut.x; y = cut.y; via = cut.via }) c.requires.floors in
    record {
      sized = c.requires.size;
      inside = c.place_of.ensures.inside;
      low_x = omega (arith, cut.x);
      low_y = omega (arith, cut.y);
      low_via = omega (arith, cut.via);
      slow = floor_rest-slow c.args.size c.lowered.result c.place_of.result pieces low;
    }
