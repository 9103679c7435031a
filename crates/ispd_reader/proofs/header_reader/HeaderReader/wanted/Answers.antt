use Rattle.ispd_reader.specs.HeaderLeft.{header_left}
use Rattle.ispd_reader.proofs.HeaderMisses.{stage_misses}
use Rattle.ispd_reader.proofs.header_reader.HeaderReader.wanted.Goals as goal

pub returns : goal.returns
unfolding header_left
returns c = rw c.wanted.ensures (stage_misses c.args.self.now.stage c.args.self.now.lists c.args.self.now.limits)
