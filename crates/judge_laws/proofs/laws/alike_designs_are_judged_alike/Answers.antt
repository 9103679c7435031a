use Rattle.judge_laws.proofs.AlikeDesigns.{judged_alike, measured_once}
use Rattle.judge_laws.proofs.laws.alike_designs_are_judged_alike.Goals as goal

pub returns-clause-judged : goal.returns-clause-judged
returns-clause-judged c = judged_alike

pub returns-clause-measured : goal.returns-clause-measured
returns-clause-measured c = measured_once
