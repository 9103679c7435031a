use Rattle.guide_text.proofs.InRange.{guide_in_range}
use Rattle.guide_text.proofs.ReadBack.{guides_read_back}
use Rattle.guide_text.proofs.laws.written_guides_read_back.Goals as goal

pub returns-clause-text : goal.returns-clause-text
returns-clause-text c = guides_read_back

pub returns-clause-near : goal.returns-clause-near
returns-clause-near c = guide_in_range
