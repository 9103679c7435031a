use Rattle.made_designs.proofs.Reaching.{all_reachable}
use Rattle.made_designs.proofs.laws.rows_and_columns_reach_all_nets.Goals as goal

pub returns : goal.returns
returns c = all_reachable
