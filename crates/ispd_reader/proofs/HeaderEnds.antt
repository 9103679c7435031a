-- What a reader of the header is where no token is left.
use Rattle.ispd_reader.specs.declared.header_reader.HeaderReader.{HeaderReader}
use Rattle.design_tokens.specs.declared.wanted.Wanted.{Wanted}
use Rattle.ispd_reader.specs.HeaderLeft.{header_left}
use Rattle.ispd_reader.specs.HeaderStages.{wanted_at}
use Rattle.design_tokens.specs.Steps.{IsMissing}
use Rattle.ispd_reader.proofs.HeaderMisses.{stage_misses}

-- a word is missing
pub header_missing : (h : HeaderReader) → (w : Wanted) × IsMissing w (header_left h)
unfolding header_left
header_missing h = (wanted_at h.stage, stage_misses h.stage h.lists h.limits)
