use Rattle.judge_laws.proofs.TrueClaims.{true_claims_meet}
use Rattle.judge_laws.proofs.laws.true_claims_are_accepted.Goals as goal

pub returns : goal.returns
returns c = true_claims_meet
