-- What is read of a route text that was written.
use Rattle.std.specs.Prelude.{◌≡◌, ◌≤◌, ◌↔◌, List, Contains, IsTrue, length}
use Rattle.std.specs.List.{AllZip, zip}
use Rattle.grid_base.specs.declared.piece.Piece.{Piece}
use Rattle.grid_graph.specs.declared.grid.Grid.{Grid}
use Rattle.grid_graph.specs.declared.net_spec.NetSpec.{NetSpec}
use Rattle.grid_graph.specs.Grids.{size_of}
use Rattle.grid_graph.specs.Limits.{max_id}
use Rattle.text_scan.specs.Tokens.{is_word}
use Rattle.tree_set.specs.Order.{IsRising}
use Rattle.tree_set.specs.Routings.{ArePieces}
use Rattle.route_text.specs.declared.block.Block.{Block}
use Rattle.route_text.specs.BlockPieces.{IsPieceOf}

-- a net as a text names it: its name is a token, and its id is in range
pub record IsNamed (n : NetSpec) : Type 0 where
  pub name : IsTrue (is_word n.name)
  pub id : n.id ≤ max_id

-- a set of pieces of the grid, as a rising list
pub record IsSet (g : Grid) (tree : List Piece) : Type 0 where
  pub rising : IsRising tree
  pub pieces : ArePieces (size_of g) tree

-- the block has the net's name and id, and names the pieces of the set and no others
pub record IsBlockOf (g : Grid) (n : NetSpec) (tree : List Piece) (block : Block) : Type 0 where
  pub name : block.name ≡ n.name
  pub id : block.id ≡ n.id
  pub pieces : (p : Piece) → IsPieceOf g block p ↔ Contains tree p

-- one block per net, in order: that of the net with its set
pub record AreBlocksOf (g : Grid) (nets : List NetSpec) (trees : List (List Piece)) (blocks : List Block) : Type 0 where
  pub long : length blocks ≡ length nets
  pub each : AllZip (λ (x : NetSpec × List Piece) block. IsBlockOf g x.0 x.1 block) (zip nets trees) blocks
