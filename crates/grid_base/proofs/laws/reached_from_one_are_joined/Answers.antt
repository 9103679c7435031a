-- Walks from one vertex are put together there.
use Rattle.grid_base.proofs.Joined.{JoinsList-from_one}
use Rattle.grid_base.proofs.laws.reached_from_one_are_joined.Goals as goal

pub returns : goal.returns
returns c = JoinsList-from_one c.args.size.now c.args.pieces.now c.args.terminals.now c.args.root.0 c.requires
