use Rattle.ispd_reader.proofs.NetTokens.{nets_missing}
use Rattle.ispd_reader.proofs.nets_reader.NetsReader.wanted.Goals as goal

pub returns : goal.returns
returns c = λ header. rw c.wanted.ensures (nets_missing header c.args.self.now c.requires)
