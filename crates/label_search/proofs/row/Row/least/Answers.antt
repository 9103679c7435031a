use Rattle.label_search.specs.Founds.{index_in}
use Rattle.label_search.proofs.row.Row.least.Goals as goal

pub returns-in-Some-clause-least : goal.returns-in-Some-clause-least
returns-in-Some-clause-least c = λ v k waits. c.in-Some.ensures.least (index_in c.args.self.now.found v) k waits

pub returns-in-None-clause-none : goal.returns-in-None-clause-none
returns-in-None-clause-none c = λ v k waits. c.in-None.ensures.none (index_in c.args.self.now.found v) k waits
