use Rattle.route_text.proofs.NamedPieces.{names_its_pieces}
use Rattle.route_text.proofs.laws.segments_name_their_pieces.Goals as goal

pub returns : goal.returns
returns c = record { pieces = names_its_pieces }
