-- A straight run of pieces joins its two ends.
use Rattle.grid_base.specs.Walks.{InPieces}
use Rattle.grid_base.proofs.Runs.{WalkBetween-along_row, WalkBetween-along_col, WalkBetween-through_layers}
use Rattle.grid_base.proofs.laws.straight_runs_join_their_ends.Goals as goal

pub returns-clause-along_x : goal.returns-clause-along_x
returns-clause-along_x c order members =
    WalkBetween-along_row c.args.size.now (InPieces c.args.pieces.now) c.args.low.row c.args.low.layer c.args.low.col c.args.high.col order c.requires.high.0 c.requires.low.1 c.requires.low.2 members

pub returns-clause-along_y : goal.returns-clause-along_y
returns-clause-along_y c order members =
    WalkBetween-along_col c.args.size.now (InPieces c.args.pieces.now) c.args.low.col c.args.low.layer c.args.low.row c.args.high.row order c.requires.low.0 c.requires.high.1 c.requires.low.2 members

pub returns-clause-through_layers : goal.returns-clause-through_layers
returns-clause-through_layers c order members =
    WalkBetween-through_layers c.args.size.now (InPieces c.args.pieces.now) c.args.low.col c.args.low.row c.args.low.layer c.args.high.layer order c.requires.low.0 c.requires.low.1 c.requires.high.2 members
