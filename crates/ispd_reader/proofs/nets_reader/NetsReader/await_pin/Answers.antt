use Rattle.std.proofs.Common.{◌-◌, arith}
use Rattle.ispd_reader.proofs.NetTokens.{pin_next}
use Rattle.ispd_reader.proofs.nets_reader.NetsReader.await_pin.Goals as goal

pub returns-then-self-gt0-clause-left : goal.returns-then-self-gt0-clause-left
returns-then-self-gt0-clause-left c = λ header r. pin_next header c.args.self.now (c.args.self.now.net.owed - 1) r (omega arith)
