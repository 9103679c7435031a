use Rattle.std.proofs.Common.{refl}
use Rattle.ispd_reader.specs.Header.{header_at}
use Rattle.ispd_reader.specs.HeaderLeft.{header_left}
use Rattle.ispd_reader.proofs.header_reader.HeaderReader.new.Goals as goal

pub returns : goal.returns
unfolding header_left header_at
returns c = λ r. refl
