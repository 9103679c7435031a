use Rattle.std.proofs.Common.{refl}
use Rattle.grid_graph.specs.Grids.{layout_of}
use Rattle.ispd_reader.specs.Views.{header_of}
use Rattle.ispd_reader.proofs.NetTokens.{nets_begin}
use Rattle.ispd_reader.proofs.nets_reader.NetsReader.new.Goals as goal

pub returns-clause-left : goal.returns-clause-left
returns-clause-left c = λ r. nets_begin (header_of (layout_of c.args.grid.now)) _ r refl c.new.ensures.items (λ q. rw c.new-2.ensures.empty refl) refl
