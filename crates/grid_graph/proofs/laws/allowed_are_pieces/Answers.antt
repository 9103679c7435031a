use Rattle.grid_graph.proofs.Allowed.{Allows-IsPiece}
use Rattle.grid_graph.proofs.laws.allowed_are_pieces.Goals as goal

pub returns : goal.returns
returns c = Allows-IsPiece
