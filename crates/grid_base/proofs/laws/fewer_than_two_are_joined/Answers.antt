-- A vertex alone is a walk.
use Rattle.grid_base.proofs.Joined.{JoinsList-alone}
use Rattle.grid_base.proofs.laws.fewer_than_two_are_joined.Goals as goal

pub returns-clause-alone : goal.returns-clause-alone
returns-clause-alone c = JoinsList-alone c.args.size.now c.args.pieces.now c.args.v c.requires
