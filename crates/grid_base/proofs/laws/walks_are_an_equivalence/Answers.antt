-- Walks can be turned round and put together.
use Rattle.grid_base.specs.Walks.{InPieces}
use Rattle.grid_base.proofs.Walks.{WalkBetween-refl, WalkBetween-sym, WalkBetween-trans}
use Rattle.grid_base.proofs.laws.walks_are_an_equivalence.Goals as goal

pub returns-clause-alone : goal.returns-clause-alone
returns-clause-alone c = WalkBetween-refl c.args.size.now (InPieces c.args.pieces.now) c.args.a.0 c.requires

pub returns-clause-back : goal.returns-clause-back
returns-clause-back c = WalkBetween-sym c.args.size.now (InPieces c.args.pieces.now) c.args.a.0 c.args.b.0

pub returns-clause-on : goal.returns-clause-on
returns-clause-on c = WalkBetween-trans c.args.size.now (InPieces c.args.pieces.now) c.args.a.0 c.args.b.0 c.args.c.0
