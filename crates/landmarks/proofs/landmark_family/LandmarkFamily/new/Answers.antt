use Rattle.landmarks.proofs.Families.{landmark_family}
use Rattle.landmarks.proofs.landmark_family.LandmarkFamily.new.Goals as goal

pub invariant_of-result-clause-holds : goal.invariant_of-result-clause-holds
invariant_of-result-clause-holds g c =
    landmark_family c.args.size (g.W.Weights.pieces c.args.weights.now) c.args.terminals.now c.args.landmarks.now c.requires.vertices
    c.requires.landmarks
