-- Limits that hold of all blocks that are read.
use Rattle.std.specs.Prelude.{ℕ, ◌+◌, List, length}
use Rattle.std.specs.List.{All, sum_by}
use Rattle.grid_graph.specs.Layouts.{IsPosition}
use Rattle.route_text.specs.declared.block.Block.{Block}
use Rattle.route_text.specs.declared.point.Point.{Point}
use Rattle.route_text.specs.declared.segment.Segment.{Segment}

-- each number of the point is from -2^40 to 2^40
pub record IsPointInRange (point : Point) : Type 0 where
  pub x : IsPosition point.x
  pub y : IsPosition point.y
  pub layer : IsPosition point.layer

-- so is each number of the segment
pub record IsSegmentInRange (segment : Segment) : Type 0 where
  pub from : IsPointInRange segment.from
  pub to : IsPointInRange segment.to

-- and each number in the segments of the block
abbrev pub IsBlockInRange : Block → Type 0
IsBlockInRange block = All IsSegmentInRange block.segments

-- how many blocks there are, and segments in them
abbrev pub block_and_segment_count : List Block → ℕ
block_and_segment_count blocks = sum_by (λ block. 1 + length block.segments) blocks
