-- The pieces of a ground as a list, each with a number.
use Rattle.std.specs.Prelude.{ℕ, ◌+◌, ◌≡◌, ◌↔◌, Bool, ◌&&◌, true, false, List, ◌++◌, map, ltb}
use Rattle.std.specs.List.{filter, range_with_len}
use Rattle.grid_base.specs.declared.piece.Piece.{Piece}
use Rattle.grid_base.specs.declared.piece.Piece.TheVariants.{Edge, Via}
use Rattle.grid_base.specs.declared.size.Size.{Size}
use Rattle.grid_base.specs.Numbers.{layers, vertices, layer_of, to_next_layer}
use Rattle.grid_graph.specs.declared.grid.Grid.{Grid}
use Rattle.grid_graph.specs.declared.ground.Ground.{Ground}
use Rattle.grid_graph.specs.declared.ground.Ground.TheVariants.{Open, WithChoked}
use Rattle.grid_graph.specs.declared.kind.Kind.{Kind}
use Rattle.grid_graph.specs.declared.kind.Kind.TheVariants as kinds
use Rattle.grid_graph.specs.Grids.{size_of, kind, Allows, edge_numbers}
use Rattle.grid_graph.specs.Weighed.{Weighs, NoPieceTwice, WeighsOnlyPieces, AreWithinLimit}

-- whether a net of this ground may use an edge of this kind
abbrev pub admits : Ground → Kind → Bool
admits Open kinds.Open = true
admits Open kinds.Choked = false
admits WithChoked kinds.Open = true
admits WithChoked kinds.Choked = true
admits over kinds.Wall = false

-- whether the piece is one of the ground
abbrev pub has_piece : Grid → Ground → Piece → Bool
has_piece g over (Edge e) = ltb e.0 (edge_numbers g) && admits over (kind g e.0)
has_piece g over (Via v) = ltb v.0 (vertices (size_of g)) && ltb (layer_of (size_of g) v.0 + 1) (layers (size_of g))

-- the edge with this number
abbrev pub edge : ℕ → Piece
edge e = Edge (record { 0 = e })

-- all edge numbers, and then all via numbers
abbrev pub all_pieces : Grid → List Piece
all_pieces g = map edge (range_with_len 0 (edge_numbers g)) ++ map to_next_layer (range_with_len 0 (vertices (size_of g)))

-- the ground's pieces, each with the number that f gives it
abbrev pub pieces_with : Grid → Ground → (Piece → ℕ) → List (Piece × ℕ)
pieces_with g over f = map (λ p. (p, f p)) (filter (has_piece g over) (all_pieces g))

-- the list holds the ground's pieces, each with the number that f gives it
abbrev pub AreGroundPieces : Grid → Ground → (Piece → ℕ) → List (Piece × ℕ) → Type 0
AreGroundPieces g over f pieces = (p : Piece) (n : ℕ) → Weighs pieces p n ↔ (Allows g over p × (n ≡ f p))

-- a list of pieces as a search takes it: no piece twice, only pieces of the size, and no number above the limit
pub record IsWeightList (s : Size) (pieces : List (Piece × ℕ)) : Type 0 where
  pub once : NoPieceTwice pieces
  pub inside : WeighsOnlyPieces s pieces
  pub within : AreWithinLimit pieces
