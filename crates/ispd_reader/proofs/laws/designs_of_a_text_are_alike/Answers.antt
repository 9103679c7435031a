-- Designs of one text are alike.
use Rattle.ispd_reader.proofs.Alike.{one_design}
use Rattle.ispd_reader.proofs.laws.designs_of_a_text_are_alike.Goals as goal

pub returns : goal.returns
returns c = record { alike = one_design }
