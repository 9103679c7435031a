-- The edges that a price list prices above 0, and their lines.
use Rattle.std.specs.Prelude.{ℕ, List, [], ◌∷◌, ◌++◌, codes, flat_map, length, ltb, map, slice_index}
use Rattle.std.specs.List.{filter, range_with_len}
use Rattle.grid_base.specs.declared.piece.Piece.TheVariants.{Edge}
use Rattle.grid_base.specs.Numbers.{IsPiece, end_of, start_of}
use Rattle.grid_graph.specs.declared.grid.Grid.{Grid}
use Rattle.grid_graph.specs.Grids.{edge_numbers, size_of}
use Rattle.command_runs.specs.Lines.{fields, line}
use Rattle.route_text.specs.RouteText.{point_text}
use Rattle.unavoidable_cli.specs.declared.priced_edge.PricedEdge.{PricedEdge}

-- the edges that a price list prices above 0, each with its price, in rising order of their numbers. At a price list every one of
-- them is open.
abbrev pub priced_edges : Grid → List ℕ → List PricedEdge
priced_edges g prices =
    map (λ e. record { edge = record { 0 = e }; price = slice_index prices e })
    (filter (λ e. ltb 0 (slice_index prices e)) (range_with_len 0 (edge_numbers g)))

-- the edge is one of the grid
abbrev pub IsEdgeOf : Grid → PricedEdge → Type 0
IsEdgeOf g priced = IsPiece (size_of g) (Edge priced.edge)

-- the line of a priced edge: as a segment of routes from its start to its end, and its price
abbrev pub edge_line : Grid → PricedEdge → List ℕ
edge_line g priced =
    point_text g (start_of (Edge priced.edge)) ++ codes "-" ++ point_text g (end_of (size_of g) (Edge priced.edge))
    ++ fields (priced.price ∷ []) ++ codes "\n"

-- how many edges there are, behind a word, and then a line for each
abbrev pub edges_text : List ℕ → Grid → List PricedEdge → List ℕ
edges_text word g edges = line word (length edges ∷ []) ++ flat_map (edge_line g) edges
