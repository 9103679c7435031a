use Rattle.std.proofs.Common.{◌≡◌, ◌≤◌, ◌-◌, length}
use Rattle.std.specs.List.{All}
use Rattle.text_scan.specs.Reading.{whole, past_blanks}
use Rattle.text_scan.proofs.Bounds.{AreParts}
use Rattle.route_text.specs.Blocks.{block_at, is_at_end}
use Rattle.route_text.specs.FlatBlocks.{AreInOrder, blocks_from}
use Rattle.route_text.specs.ReadLimits.{IsBlockInRange, block_and_segment_count}
use Rattle.route_text.proofs.Takes.{next_block_takes}
use Rattle.route_text.proofs.reading.read_block_list.Given as goal

abbrev pub invariant-loop-scanner : goal.invariant-loop-scanner
invariant-loop-scanner l = record {
  text : l.scanner.text ≡ l.bytes;
  within : l.scanner.place ≤ length l.bytes;
  order : AreInOrder (length l.names.items) (length l.segments.items) 0 0 l.heads.items;
  few : block_and_segment_count (blocks_from l.names.items l.segments.items 0 0 l.heads.items) ≤ l.scanner.place;
  range : All IsBlockInRange (blocks_from l.names.items l.segments.items 0 0 l.heads.items);
  read : AreParts is_at_end past_blanks block_at next_block_takes (whole l.bytes) l.scanner (blocks_from l.names.items l.segments.items 0 0 l.heads.items);
}

abbrev pub decreases-loop-scanner : goal.decreases-loop-scanner
decreases-loop-scanner l = length l.bytes - l.scanner.place
