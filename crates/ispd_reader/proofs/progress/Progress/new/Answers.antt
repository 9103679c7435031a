use Rattle.ispd_reader.proofs.Pieces.{at_front}
use Rattle.ispd_reader.proofs.progress.Progress.new.Goals as goal

pub returns : goal.returns
returns c = at_front c.new.result c.new-2.result c.new.ensures.stands c.new.ensures.left c.new-2.ensures
