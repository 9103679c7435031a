use Rattle.std.proofs.Common.{◌<◌, arith}
use Rattle.ispd_reader.proofs.AdjustmentStages.{before_none, before_some}
use Rattle.ispd_reader.proofs.adjustments_reader.AdjustmentsReader.before.Goals as goal

pub returns-then-count-eq0-clause-left : goal.returns-then-count-eq0-clause-left
returns-then-count-eq0-clause-left c = λ extent r. before_none extent c.args.index c.args.count r c.if-count-eq0.true

pub returns-clause-left : goal.returns-clause-left
returns-clause-left c =
    let some : 0 < c.args.count = omega (arith, c.if-count-eq0.false) in
    λ extent r. before_some extent c.args.index c.args.count r some
