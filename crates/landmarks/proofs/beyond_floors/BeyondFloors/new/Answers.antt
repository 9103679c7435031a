use Rattle.landmarks.proofs.Lowered.{lowered_list}
use Rattle.landmarks.proofs.beyond_floors.BeyondFloors.new.Goals as goal

pub invariant_of-result : goal.invariant_of-result
invariant_of-result g c =
    let w = c.args.weights.now in
    record {
      listed = lowered_list (g.W.Weights.size w) (g.W.Weights.pieces w) c.args.floors (g.met.W.Weights.once w)
          (g.met.W.Weights.inside w) (g.met.W.Weights.small w);
    }
