use Rattle.ispd_reader.proofs.AdjustSteps.{one_edge}
use Rattle.ispd_reader.proofs.adjustments_reader.apply.Goals as goal

pub returns-in-Some : goal.returns-in-Some
returns-in-Some c = rw c.in-Some.is (record { levels = one_edge c.args.grid.now c.adjust.new.self c.in-Some.edge.0 c.args.adjustment.level c.adjust.ensures.level c.adjust.ensures.others; kept = c.adjust.ensures.layout })
