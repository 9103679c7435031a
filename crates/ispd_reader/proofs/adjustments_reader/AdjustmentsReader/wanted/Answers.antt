use Rattle.ispd_reader.proofs.AdjustmentStages.{number_is_missing, may_end}
use Rattle.ispd_reader.proofs.adjustments_reader.AdjustmentsReader.wanted.Goals as goal

pub returns-in-Adjustment-clause-some : goal.returns-in-Adjustment-clause-some
returns-in-Adjustment-clause-some c = rw c.in-Adjustment.is (λ extent. number_is_missing extent c.in-Adjustment.stage c.in-Adjustment.index c.in-Adjustment.owed)

pub returns-in-Count-clause-none : goal.returns-in-Count-clause-none
returns-in-Count-clause-none c = λ _. may_end c.args.self.now c.in-Count.is

pub returns-in-Count-2-clause-none : goal.returns-in-Count-2-clause-none
returns-in-Count-2-clause-none c = λ _. may_end c.args.self.now c.in-Count.is
