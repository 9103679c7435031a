use Rattle.judge_laws.proofs.OneTextVerdict.{one_text_verdict, one_measurement, meet_too, met_accepted}
use Rattle.judge_laws.proofs.laws.texts_have_one_verdict.Goals as goal

pub returns-clause-verdict : goal.returns-clause-verdict
returns-clause-verdict c = one_text_verdict

pub returns-clause-measured : goal.returns-clause-measured
returns-clause-measured c = one_measurement

pub returns-clause-meet : goal.returns-clause-meet
returns-clause-meet c = meet_too

pub returns-clause-accepted : goal.returns-clause-accepted
returns-clause-accepted c = met_accepted
