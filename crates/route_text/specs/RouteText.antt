-- The text of routes: for each net its name and id, its segments one a line, and a closing mark.
use Rattle.std.specs.Prelude.{ℕ, ◌+◌, List, ◌++◌, flat_map, codes, decimal}
use Rattle.std.specs.Fmt.{signed_decimal}
use Rattle.std.specs.List.{zip}
use Rattle.grid_base.specs.declared.piece.Piece.{Piece}
use Rattle.grid_base.specs.Numbers.{layer_of}
use Rattle.grid_graph.specs.declared.grid.Grid.{Grid}
use Rattle.grid_graph.specs.declared.net_spec.NetSpec.{NetSpec}
use Rattle.grid_graph.specs.Grids.{size_of, position_of}
use Rattle.route_text.specs.Segments.{segments}

-- a vertex as (x,y,layer): the position written for it, and its layer, which counts from 1
abbrev pub point_text : Grid → ℕ → List ℕ
point_text g v =
    codes "(" ++ signed_decimal (position_of g v).0 ++ codes "," ++ signed_decimal (position_of g v).1
    ++ codes "," ++ decimal (layer_of (size_of g) v + 1) ++ codes ")"

-- a segment on a line of its own, from one end to the other
abbrev pub segment_text : Grid → ℕ × ℕ → List ℕ
segment_text g ends = point_text g ends.0 ++ codes "-" ++ point_text g ends.1 ++ codes "\n"

-- the block of a net with this set of pieces: name and id, the segments, and the closing mark, each on a line
abbrev pub net_text : Grid → NetSpec → List Piece → List ℕ
net_text g net pieces =
    net.name ++ codes " " ++ decimal net.id ++ codes "\n"
    ++ flat_map (segment_text g) (segments (size_of g) pieces) ++ codes "!\n"

-- the blocks of the nets of a design, where `trees` has one set per net
abbrev pub routes_text : Grid → List NetSpec → List (List Piece) → List ℕ
routes_text g nets trees = flat_map (λ x. net_text g x.0 x.1) (zip nets trees)
