use Rattle.judge_laws.proofs.OtherPrices.{accepted_anew, bounds_anew, reads_back_anew}
use Rattle.judge_laws.proofs.laws.certificates_with_another_bound_are_accepted.Goals as goal

pub returns-clause-accepted : goal.returns-clause-accepted
returns-clause-accepted c = accepted_anew

pub returns-clause-reads_back : goal.returns-clause-reads_back
returns-clause-reads_back c = reads_back_anew

pub returns-clause-bounds : goal.returns-clause-bounds
returns-clause-bounds c = bounds_anew
