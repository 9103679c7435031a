use Rattle.shortest_paths.specs.LabelWords.{label_of}
use Rattle.terminal_distances.proofs.DistanceLaws.{distance_family}
use Rattle.terminal_distances.proofs.distance_family.DistanceFamily.new.Goals as goal

pub invariant_of-result-clause-holds : goal.invariant_of-result-clause-holds
invariant_of-result-clause-holds g c =
    let bounds = c.args.bounds.now in
    distance_family (g.B.Family.size bounds) (g.B.Family.pieces bounds) (g.B.Family.terminals bounds) (g.B.Family.low bounds)
    c.args.limit (label_of c.args.labels.now) c.args.first c.args.end (g.met.B.Family.holds bounds) c.requires.rows
