use Rattle.std.proofs.Common.{◌≡◌, ◌≤◌, ◌-◌, length}
use Rattle.std.specs.List.{All}
use Rattle.text_scan.specs.Reading.{whole, past_blanks}
use Rattle.text_scan.proofs.Bounds.{AreParts}
use Rattle.route_text.specs.Blocks.{block_at, is_at_end}
use Rattle.route_text.specs.ReadLimits.{IsBlockInRange, block_and_segment_count}
use Rattle.route_text.proofs.Takes.{next_block_takes}
use Rattle.route_text.proofs.reading.read_routes.Given as goal

abbrev pub invariant-loop-scanner : goal.invariant-loop-scanner
invariant-loop-scanner l = record {
  text : l.scanner.text ≡ l.bytes;
  within : l.scanner.place ≤ length l.bytes;
  few : block_and_segment_count l.blocks.items ≤ l.scanner.place;
  range : All IsBlockInRange l.blocks.items;
  read : AreParts is_at_end past_blanks block_at next_block_takes (whole l.bytes) l.scanner l.blocks.items;
}

abbrev pub decreases-loop-scanner : goal.decreases-loop-scanner
decreases-loop-scanner l = length l.bytes - l.scanner.place
