use Rattle.route_judge.proofs.Found.{found_once}
use Rattle.route_judge.proofs.laws.one_reason_is_found.Goals as goal

pub returns : goal.returns
returns c = found_once
