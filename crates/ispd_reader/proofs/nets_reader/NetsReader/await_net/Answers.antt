use Rattle.std.proofs.Common.{◌-◌, arith}
use Rattle.ispd_reader.proofs.NetTokens.{net_next, no_net_next}
use Rattle.ispd_reader.proofs.nets_reader.NetsReader.await_net.Goals as goal

pub returns-then-count-gt0-clause-left : goal.returns-then-count-gt0-clause-left
returns-then-count-gt0-clause-left c = λ header r. net_next header c.args.self.now (c.args.count - 1) c.args.count r (omega arith)

pub returns-else-count-gt0-clause-left : goal.returns-else-count-gt0-clause-left
returns-else-count-gt0-clause-left c = λ header r. no_net_next header c.args.self.now c.args.count r (omega arith)
