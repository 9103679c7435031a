use Rattle.route_text.proofs.ReadBack.{are_blocks}
use Rattle.route_text.proofs.ReadBackBlocks.{text_reads_back}
use Rattle.route_text.proofs.laws.written_routes_read_back.Goals as goal

pub returns : goal.returns
returns c = record { text = text_reads_back; blocks = are_blocks }
