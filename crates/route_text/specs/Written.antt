-- The blocks that are written for nets.
use Rattle.std.specs.Prelude.{ℕ, ◌+◌, List, map, pos}
use Rattle.std.specs.List.{zip}
use Rattle.grid_base.specs.declared.piece.Piece.{Piece}
use Rattle.grid_base.specs.Numbers.{layer_of}
use Rattle.grid_graph.specs.declared.grid.Grid.{Grid}
use Rattle.grid_graph.specs.declared.net_spec.NetSpec.{NetSpec}
use Rattle.grid_graph.specs.Grids.{size_of, position_of}
use Rattle.route_text.specs.declared.block.Block.{Block}
use Rattle.route_text.specs.declared.point.Point.{Point}
use Rattle.route_text.specs.declared.segment.Segment.{Segment}
use Rattle.route_text.specs.Segments.{segments}

-- the point written for a vertex: its position, and its layer, which counts from 1
abbrev pub written_point : Grid → ℕ → Point
written_point g v = record { x = (position_of g v).0; y = (position_of g v).1; layer = pos (layer_of (size_of g) v + 1) }

-- the segment written for two vertices
abbrev pub written_segment : Grid → ℕ × ℕ → Segment
written_segment g ends = record { from = written_point g ends.0; to = written_point g ends.1 }

-- the block written for a net with this set of pieces
abbrev pub written_block : Grid → NetSpec → List Piece → Block
written_block g n tree = record { name = n.name; id = n.id; segments = map (written_segment g) (segments (size_of g) tree) }

-- the blocks written for the nets of a design, where `trees` has one set per net
abbrev pub written_blocks : Grid → List NetSpec → List (List Piece) → List Block
written_blocks g nets trees = map (λ x. written_block g x.0 x.1) (zip nets trees)
