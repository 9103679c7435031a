use Rattle.std.proofs.Common.{arith}
use Rattle.text_scan.specs.Reading.{past_blanks, is_next, past_byte}
use Rattle.text_scan.proofs.Bounds.{same_parts}
use Rattle.route_text.specs.Blocks.{segment_at, block_at, is_at_end}
use Rattle.route_text.proofs.Takes.{next_segment_takes, next_block_takes}
use Rattle.route_text.proofs.laws.no_bound_decides.Goals as goal

pub returns : goal.returns
returns c = record {
  blocks = λ r n above. same_parts is_at_end past_blanks block_at next_block_takes n _ r above (omega arith);
  segments = λ r n above. same_parts (is_next 33) (past_byte 33) segment_at next_segment_takes n _ r above (omega arith);
}
