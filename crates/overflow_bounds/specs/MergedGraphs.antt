-- Graphs of few nodes in place of grids: vertices that pieces without cost join are one node, whatever lies between.
use Rattle.std.specs.Prelude.{ℕ, ◌≡◌, ◌<◌, ◌⊎◌, List, All, length, slice_index}
use Rattle.grid_base.specs.declared.piece.Piece.{Piece}
use Rattle.grid_base.specs.declared.piece.Piece.TheVariants.{Edge}
use Rattle.grid_base.specs.declared.size.Size.{Size}
use Rattle.grid_base.specs.Numbers.{Connects, vertices}
use Rattle.grid_graph.specs.Weighed.{Weighs}
use Rattle.overflow_bounds.specs.declared.link.Link.{Link}
use Rattle.overflow_bounds.specs.declared.merged_graph.MergedGraph.{MergedGraph}
use Rattle.overflow_bounds.specs.Links.{AreLinkedWithin, IsInside}

-- the node of a vertex
abbrev pub node_of : MergedGraph → ℕ → ℕ
node_of m v = slice_index m.nodes.items v

-- a graph has a node for each vertex, and each piece leads to the same node or along a link that costs no more than it
pub record IsMerged (s : Size) (pieces : List (Piece × ℕ)) (m : MergedGraph) : Type 0 where
  pub long : length m.nodes.items ≡ vertices s
  pub inside : All (λ n. n < m.count) m.nodes.items
  pub links : All (IsInside m.count) m.links.items
  pub crossed : (p : Piece) (k a b : ℕ) → Weighs pieces p k → Connects s p a b
      → (node_of m a ≡ node_of m b) ⊎ AreLinkedWithin m.links.items (node_of m a) (node_of m b) k

-- links between these nodes, along the edges with the first so many numbers
pub record AreLinksOf (s : Size) (pieces : List (Piece × ℕ)) (nodes : List ℕ) (edges : ℕ) (links : List Link) : Type 0 where
  pub inside : (count : ℕ) → All (λ n. n < count) nodes → All (IsInside count) links
  pub crossed : (e k a b : ℕ) → e < edges → Weighs pieces (Edge (record { 0 = e })) k → Connects s (Edge (record { 0 = e })) a b
      → (slice_index nodes a ≡ slice_index nodes b) ⊎ AreLinkedWithin links (slice_index nodes a) (slice_index nodes b) k
