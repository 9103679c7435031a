use Rattle.std.proofs.Common.{length}
use Rattle.reference_programs.proofs.reference_weights.+least_beside.Given as goal

abbrev pub decreases-least_beside : goal.decreases-least_beside
decreases-least_beside l = length l.pieces.now
