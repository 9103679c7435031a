-- What a reader of what stands before the nets still has to read.
use Rattle.ispd_reader.specs.declared.header_reader.HeaderReader.{HeaderReader}
use Rattle.design_tokens.specs.Parsing.{Reading, InputRead}
use Rattle.ispd_reader.specs.Header.{Header}
use Rattle.ispd_reader.specs.HeaderStages.{stage_left}

-- what is left of it, and the whole header then
unfoldable pub header_left : HeaderReader → Reading → InputRead Header
header_left h r = stage_left h.stage h.lists r
