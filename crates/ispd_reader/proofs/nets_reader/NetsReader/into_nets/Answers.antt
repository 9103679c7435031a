use Rattle.ispd_reader.proofs.NetTokens.{nets_there}
use Rattle.ispd_reader.proofs.NetFits.{nets_fit}
use Rattle.ispd_reader.proofs.nets_reader.NetsReader.into_nets.Goals as goal

pub returns-clause-left : goal.returns-clause-left
returns-clause-left c = λ header r. rw c.of.ensures (nets_there header c.args.self r c.requires.all)

pub returns-clause-limits : goal.returns-clause-limits
returns-clause-limits c = λ grid fits. rw c.of.ensures (nets_fit grid c.args.self c.requires.all fits)
