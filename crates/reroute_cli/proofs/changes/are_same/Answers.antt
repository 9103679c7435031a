use Rattle.std.proofs.lemmas.Slice.Eq.{slice_eq-Decides}
use Rattle.negotiation.proofs.SamePieces.{piece_decides}
use Rattle.reroute_cli.proofs.changes.are_same.Goals as goal

pub returns-clause-same : goal.returns-clause-same
returns-clause-same c = rw (c.pieces.ensures.listed, c.pieces-2.ensures.listed) at (slice_eq-Decides piece_decides c.pieces.result.now c.pieces-2.result.now c.eq.result c.eq.ensures)
