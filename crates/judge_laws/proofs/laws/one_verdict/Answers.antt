use Rattle.judge_laws.proofs.OneVerdict.{verdict_once}
use Rattle.judge_laws.proofs.laws.one_verdict.Goals as goal

pub returns : goal.returns
returns c = verdict_once
