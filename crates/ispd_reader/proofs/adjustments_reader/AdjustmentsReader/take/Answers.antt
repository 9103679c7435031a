use Rattle.std.proofs.Common.{[], ◌∷◌}
use Rattle.ispd_reader.specs.Adjusted.{adjustment_of}
use Rattle.ispd_reader.proofs.AdjustSteps.{IsAdjusted-none, IsAdjusted-push}
use Rattle.ispd_reader.proofs.adjustments_reader.AdjustmentsReader.take.Goals as goal

pub returns-in-Some-clause-takes : goal.returns-in-Some-clause-takes
returns-in-Some-clause-takes c =
    let a = adjustment_of c.in-Some.adjustment in
    let grid = c.args.grid.now in
    (a ∷ [], rw (c.in-Some.is, c.size.ensures) at c.in_ok-next.ensures.makes, IsAdjusted-push grid grid c.apply.new.grid [] a (IsAdjusted-none grid) c.apply.ensures)
