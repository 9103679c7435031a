-- The tiles of a route are vertices of the grid.
use Rattle.std.proofs.Common.{ℕ, List, [], ◌∷◌, get_or, All, Contains}
use Rattle.std.specs.Prelude.{map, flat_map, ◌↔◌}
use Rattle.std.proofs.lemmas.List.Elements.{All-nil, All-cons, All-head, All-tail, All-append, All-map, All-contains, Contains-get_or}
use Rattle.std.proofs.lemmas.Option.{slice_get-get_or}
use Rattle.grid_base.specs.declared.piece.Piece.{Piece}
use Rattle.grid_base.specs.declared.size.Size.{Size}
use Rattle.grid_base.specs.declared.vertex.Vertex.{Vertex}
use Rattle.grid_base.specs.Numbers.{IsVertex, IsPiece, start_of, end_of, end_place}
use Rattle.grid_base.proofs.Places.{vertex_number-inside}
use Rattle.grid_graph.specs.declared.grid.Grid.{Grid}
use Rattle.grid_graph.specs.declared.net_spec.NetSpec.{NetSpec}
use Rattle.grid_graph.specs.Grids.{size_of}
use Rattle.grid_graph.specs.Nets.{IsNet}
use Rattle.guide_text.specs.RouteTiles.{ends_of, route_tiles}

ends_are_vertices : (s : Size) (tree : List Piece) → All (IsPiece s) tree → All (IsVertex s) (flat_map (ends_of s) tree)
ends_are_vertices s [] are = All-nil (IsVertex s)
ends_are_vertices s (p ∷ ps) are =
    let is = All-head (IsPiece s) p ps are in
    All-cons (IsVertex s) (start_of p) (end_of s p ∷ flat_map (ends_of s) ps) is.0
    (All-cons (IsVertex s) (end_of s p) (flat_map (ends_of s) ps) (vertex_number-inside s (end_place s p) is.1) (ends_are_vertices s ps (All-tail (IsPiece s) p ps are)))

pub tiles_are_vertices : (s : Size) (tree : List Piece) (terminals : List Vertex) → All (IsPiece s) tree → All (λ (t : Vertex). IsVertex s t.0) terminals → All (IsVertex s) (route_tiles s tree terminals)
tiles_are_vertices s tree terminals pieces vertices =
    All-append (IsVertex s) (flat_map (ends_of s) tree) (map (λ (t : Vertex). t.0) terminals) (ends_are_vertices s tree pieces) (All-map (IsVertex s) (λ (t : Vertex). t.0) terminals vertices)

-- so are the numbers of a list that has the same tiles
pub same_are_vertices : (s : Size) (xs ys : List ℕ) → ((v : ℕ) → Contains xs v ↔ Contains ys v) → All (IsVertex s) ys → All (IsVertex s) xs
same_are_vertices s xs ys same all k d below = All-contains (IsVertex s) ys (get_or xs k d) all ((same (get_or xs k d)).0 (Contains-get_or xs k d below))

pub terminals_are_vertices : (g : Grid) (n : NetSpec) → IsNet g n → All (λ (t : Vertex). IsVertex (size_of g) t.0) n.terminals
terminals_are_vertices g n is k d below = is.vertices k (get_or n.terminals k d) (slice_get-get_or n.terminals k d below)
