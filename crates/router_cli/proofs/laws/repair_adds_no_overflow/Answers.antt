use Rattle.router_cli.proofs.Repairs.{no_more, no_round, most_rounds, fewer_rounds}
use Rattle.router_cli.proofs.laws.repair_adds_no_overflow.Goals as goal

pub returns-clause-no_more : goal.returns-clause-no_more
returns-clause-no_more c = no_more

pub returns-clause-none : goal.returns-clause-none
returns-clause-none c = no_round

pub returns-clause-most : goal.returns-clause-most
returns-clause-most c = most_rounds

pub returns-clause-fewer : goal.returns-clause-fewer
returns-clause-fewer c = fewer_rounds
