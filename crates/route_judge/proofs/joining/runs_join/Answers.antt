use Rattle.straight_runs.specs.Runs.{pieces_of}
use Rattle.route_judge.proofs.RunPieces.{same_joining, same_pieces}
use Rattle.route_judge.proofs.joining.runs_join.Goals as goal

pub joins-requires-clause-pieces : goal.joins-requires-clause-pieces
joins-requires-clause-pieces c = same_pieces c.args.size c.args.runs.now c.in_ok-tree.tree c.requires.runs c.in_ok-tree.ensures.same

pub returns : goal.returns
returns c = same_joining c.args.size c.in_ok-tree.tree (pieces_of c.args.size c.args.runs.now) c.args.terminals.now c.joins.result c.in_ok-tree.ensures.same c.joins.ensures
