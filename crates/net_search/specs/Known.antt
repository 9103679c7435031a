-- What searches know of vertices.
use Rattle.std.specs.Prelude.{ℕ, Bool, false, true, ◌≡◌, ◌≢◌, ◌<◌, ◌⊎◌, List, [], ◌∷◌, length, slice_index_or, slice_set}
use Rattle.grid_base.specs.declared.axis.Axis.{Axis}
use Rattle.grid_base.specs.declared.axis.Axis.TheVariants.{X, Y}
use Rattle.grid_graph.specs.declared.grid.Grid.{Grid}
use Rattle.grid_graph.specs.Grids.{size_of}
use Rattle.grid_base.specs.declared.piece.Piece.{Piece}
use Rattle.grid_base.specs.declared.piece.Piece.TheVariants.{Edge, Via}
use Rattle.grid_base.specs.Numbers.{vertices, edge_start, edge_axis}
use Rattle.net_search.specs.declared.label.Label.{Label}
use Rattle.net_search.specs.declared.labels.Labels.{Labels}
use Rattle.net_search.specs.declared.road.Road.TheVariants as roads
use Rattle.net_search.specs.declared.side.Side.{Side}
use Rattle.net_search.specs.declared.side.Side.TheVariants as sides
use Rattle.net_search.specs.Kinds.{kind_of_road}
use Rattle.net_search.specs.Roads.{road_for}

-- what is known of a vertex that no search has reached, between walls
abbrev pub blank : Label
blank = record { cost = 0; search = 0; back = sides.West; is_taken = false; east = roads.Wall; north = roads.Wall }

-- what is known of a vertex
abbrev pub known_of : Labels → ℕ → Label
known_of labels v = slice_index_or labels.labels.items v blank

-- the label of a vertex that no search has reached, with all else that is known of it
abbrev pub as_forgotten : Label → Label
as_forgotten label = record label { search = 0 }

-- the label where the net has got its edge along an axis, or hasn't
abbrev pub laid : Label → Axis → Bool → Label
laid label X is_own = record label { east = road_for (kind_of_road label.east) is_own }
laid label Y is_own = record label { north = road_for (kind_of_road label.north) is_own }

-- labels where the net has got the edge that a piece is, or hasn't
unfoldable pub laid_piece : List Label → Piece → Bool → List Label
laid_piece labels (Edge e) is_own =
    slice_set labels (edge_start e.0) (laid (slice_index_or labels (edge_start e.0) blank) (edge_axis e.0) is_own)
laid_piece labels (Via v) is_own = labels

-- the same of all pieces of a set, one after another
unfoldable pub laid_all : List Label → List Piece → Bool → List Label
laid_all labels [] is_own = labels
laid_all labels (p ∷ rest) is_own = laid_all (laid_piece labels p is_own) rest is_own

-- the label of a vertex that a search has reached at this cost from this neighbour
abbrev pub lowered : Label → ℕ → ℕ → Side → Label
lowered label cost search back = record label { cost = cost; search = search; back = back; is_taken = false }

-- the label of a vertex whose cost stands
abbrev pub as_taken : Label → Label
as_taken label = record label { is_taken = true }

-- a way of this cost is cheaper than what the present search knows
abbrev pub IsLower : Labels → ℕ → ℕ → Type 0
IsLower labels v cost =
    let label = known_of labels v in
    (v < length labels.labels.items) × ((label.search ≢ labels.search) ⊎ ((label.is_taken ≡ false) × (cost < label.cost)))

-- one label for each vertex of a grid
abbrev pub AreFor : Grid → Labels → Type 0
AreFor g labels = length labels.labels.items ≡ vertices (size_of g)

-- there are as many labels, and no edge is of another kind
pub record KeepsKinds (old new : Labels) : Type 0 where
  pub long : length new.labels.items ≡ length old.labels.items
  pub east : (v : ℕ) → kind_of_road (known_of new v).east ≡ kind_of_road (known_of old v).east
  pub north : (v : ℕ) → kind_of_road (known_of new v).north ≡ kind_of_road (known_of old v).north
