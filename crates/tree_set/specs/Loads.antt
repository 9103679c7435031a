-- Loads: what nets use of the edges by their sets of pieces; and lists of loads, whose last entry is that of the wirelength.
use Rattle.std.specs.Prelude.{ℕ, ◌==◌, ◌^◌, Bool, false, cond, List, length, map}
use Rattle.std.specs.List.{list_any, sum_by, zip, range_with_len, slice_range}
use Rattle.grid_base.specs.declared.piece.Piece.{Piece}
use Rattle.grid_base.specs.declared.piece.Piece.TheVariants.{Edge, Via}
use Rattle.grid_graph.specs.declared.grid.Grid.{Grid}
use Rattle.grid_graph.specs.declared.net_spec.NetSpec.{NetSpec}
use Rattle.grid_graph.specs.Grids.{demand_on, edge_numbers, entries}
use Rattle.tree_set.specs.Measures.{wirelength}

-- the piece is the edge of this number
abbrev pub is_edge_of : ℕ → Piece → Bool
is_edge_of e (Edge x) = x.0 == e
is_edge_of e (Via v) = false

-- the set holds the edge of this number
abbrev pub holds : List Piece → ℕ → Bool
holds pieces e = list_any (is_edge_of e) pieces

-- what a net of this width uses of an edge by its set: its demand, once, where the set holds the edge
abbrev pub net_load : Grid → ℕ → List Piece → ℕ → ℕ
net_load g width pieces e = cond (holds pieces e) (demand_on g width e) 0

-- the load of a routing on an edge: what all nets use of it, where `trees` has one set per net
abbrev pub load : Grid → List NetSpec → List (List Piece) → ℕ → ℕ
load g nets trees e = sum_by (λ x. net_load g x.0.width x.1 e) (zip nets trees)

-- the load of a list of routings: the sum of their loads
abbrev pub load_of_all : Grid → List NetSpec → List (List (List Piece)) → ℕ → ℕ
load_of_all g nets routings e = sum_by (λ trees. load g nets trees e) routings

-- a net's set adds at most so much to the load of an entry: it has fewer pieces, and a demand is less
abbrev pub max_tree_load : ℕ
max_tree_load = 2 ^ 25

-- the load of a net of this width on an entry: its demand on an edge of its set, or for the wirelength the number of the set's pieces
abbrev pub tree_load : Grid → ℕ → List Piece → ℕ → ℕ
tree_load g width tree r = cond (r == edge_numbers g) (length tree) (net_load g width tree r)

-- the load of a routing on an entry: on an edge, or for the wirelength the number of pieces of all sets
abbrev pub load_on : Grid → List NetSpec → List (List Piece) → ℕ → ℕ
load_on g nets trees r = cond (r == edge_numbers g) (wirelength trees) (load g nets trees r)

-- that of the nets at the positions from one up to another
abbrev pub load_between : Grid → List NetSpec → List (List Piece) → ℕ → ℕ → ℕ → ℕ
load_between g nets trees from to r = load_on g (slice_range nets from to) (slice_range trees from to) r

-- the list of these loads
abbrev pub load_list : Grid → List NetSpec → List (List Piece) → List ℕ
load_list g nets trees = map (load_on g nets trees) (range_with_len 0 (entries g))
