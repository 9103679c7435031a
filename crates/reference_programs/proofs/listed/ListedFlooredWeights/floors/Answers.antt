use Rattle.std.proofs.Common.{arith}
use Rattle.grid_base.specs.Numbers.{edge_axis}
use Rattle.reference_programs.proofs.LeastOver.{AreFloors-level, along_level, least_over-least}
use Rattle.reference_programs.proofs.listed.ListedFlooredWeights.floors.Goals as goal

pub returns-clause-below : goal.returns-clause-below
returns-clause-below c =
    let pieces = c.args.self.now.pieces.items in
    AreFloors-level c.least_weight-least.result pieces (rw c.as_slice.ensures.value at c.least_weight-least.ensures.below)

pub returns-clause-tiles : goal.returns-clause-tiles
returns-clause-tiles c = λ e small.
    let least = c.least_weight-least.result in
    omega (arith, along_level least (edge_axis e), least_over-least c.args.self.now.size c.args.self.now.pieces.items least e c.least_weight-least.ensures.limit (rw c.as_slice.ensures.value at c.least_weight-least.ensures.below))
