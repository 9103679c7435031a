-- A walk in a set of pieces is one in each greater set.
use Rattle.std.proofs.lemmas.List.Elements.{All-contains}
use Rattle.grid_base.specs.Walks.{InPieces, InVertices}
use Rattle.grid_base.proofs.Joined.{Joins-superset}
use Rattle.grid_base.proofs.laws.more_pieces_join_more.Goals as goal

pub returns : goal.returns
returns c =
    Joins-superset c.args.size.now (InPieces c.args.fewer.now) (InPieces c.args.more.now) (InVertices c.args.terminals.now)
    (λ p at. All-contains (InPieces c.args.more.now) c.args.fewer.now p c.requires at)
