use Rattle.ispd_reader.proofs.AdjustmentStages.{nothing_read}
use Rattle.ispd_reader.proofs.adjustments_reader.AdjustmentsReader.new.Goals as goal

pub returns-clause-left : goal.returns-clause-left
returns-clause-left c = nothing_read
