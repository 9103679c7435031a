-- The set of pieces that the blocks of a text give each net.
use Rattle.std.specs.Prelude.{ℕ, ◌≡◌, ◌↔◌, List, Contains}
use Rattle.std.specs.List.{AllZip}
use Rattle.grid_base.specs.declared.piece.Piece.{Piece}
use Rattle.grid_base.specs.Walks.{JoinsList}
use Rattle.grid_graph.specs.declared.design.Design.{Design}
use Rattle.grid_graph.specs.declared.grid.Grid.{Grid}
use Rattle.grid_graph.specs.declared.ground.Ground.TheVariants.{WithChoked}
use Rattle.grid_graph.specs.declared.net_spec.NetSpec.{NetSpec}
use Rattle.grid_graph.specs.Grids.{size_of}
use Rattle.route_text.specs.declared.block.Block.{Block}
use Rattle.route_text.specs.BlockPieces.{IsPieceOf}
use Rattle.tree_set.specs.Order.{IsRising}
use Rattle.tree_set.specs.Routings.{KeepsTo}

-- one of the nets has this id
abbrev pub HasNet : List NetSpec → ℕ → Type 0
HasNet nets id = (n : NetSpec) × Contains nets n × (n.id ≡ id)

-- one of the blocks has this id
abbrev pub HasBlock : List Block → ℕ → Type 0
HasBlock blocks id = (block : Block) × Contains blocks block × (block.id ≡ id)

-- a block with the net's id names the piece
abbrev pub IsPieceOfNet : Grid → List Block → NetSpec → Piece → Type 0
IsPieceOfNet g blocks n p = (block : Block) × Contains blocks block × (block.id ≡ n.id) × IsPieceOf g block p

-- the net's set: the pieces of its block, each once; none where it has no block
pub record IsSetOfNet (g : Grid) (blocks : List Block) (n : NetSpec) (tree : List Piece) : Type 0 where
  pub rising : IsRising tree
  pub pieces : (p : Piece) → Contains tree p ↔ IsPieceOfNet g blocks n p

-- one set per net, in file order
abbrev pub AreSetsOf : Design → List Block → List (List Piece) → Type 0
AreSetsOf d blocks trees = AllZip (IsSetOfNet d.grid blocks) d.nets trees

-- a set joins the net's terminals without a wall
pub record IsJoining (g : Grid) (n : NetSpec) (tree : List Piece) : Type 0 where
  pub joined : JoinsList (size_of g) tree n.terminals
  pub no_wall : KeepsTo g WithChoked tree

-- each net's set does
abbrev pub AreJoining : Design → List (List Piece) → Type 0
AreJoining d trees = AllZip (IsJoining d.grid) d.nets trees
