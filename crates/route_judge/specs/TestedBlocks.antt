-- The blocks of a text while they are tested, one after the other.
use Rattle.std.specs.Prelude.{ℕ, ◌≡◌, ◌↔◌, Bool, IsTrue, List, Contains, length}
use Rattle.grid_base.specs.declared.piece.Piece.{Piece}
use Rattle.grid_base.specs.Lists.{At, HasNoRepeats}
use Rattle.grid_graph.specs.declared.design.Design.{Design}
use Rattle.grid_graph.specs.declared.net_spec.NetSpec.{NetSpec}
use Rattle.route_text.specs.declared.block.Block.{Block}
use Rattle.route_text.specs.BlockPieces.{IsPieceOf}
use Rattle.route_judge.specs.NetSets.{HasBlock, IsSetOfNet, IsJoining}

-- nothing is objected to a block: it is the first of the net at this place, and these are its pieces, each listed once, which
-- join the net's terminals
pub record IsTested (d : Design) (earlier : List Block) (block : Block) (place : ℕ) (pieces : List Piece) : Type 0 where
  pub net : NetSpec
  pub at : At d.nets place net
  pub id : net.id ≡ block.id
  pub first : ¬ HasBlock earlier net.id
  pub once : HasNoRepeats pieces
  pub named : (p : Piece) → Contains pieces p ↔ IsPieceOf d.grid block p
  pub joining : IsJoining d.grid net pieces

-- which nets have one of the blocks
pub record AreTaken (d : Design) (earlier : List Block) (taken : List Bool) : Type 0 where
  pub long : length taken ≡ length d.nets
  pub each : (i : ℕ) (n : NetSpec) (has : Bool) → At d.nets i n → At taken i has → IsTrue has ↔ HasBlock earlier n.id

-- the nets' sets after some blocks: a net that has one of them has a set that joins its terminals
pub record AreSetsAfter (d : Design) (earlier : List Block) (trees : List (List Piece)) : Type 0 where
  pub long : length trees ≡ length d.nets
  pub each : (i : ℕ) (n : NetSpec) (tree : List Piece) → At d.nets i n → At trees i tree → IsSetOfNet d.grid earlier n tree
  pub joining : (i : ℕ) (n : NetSpec) (tree : List Piece) → At d.nets i n → At trees i tree → HasBlock earlier n.id → IsJoining d.grid n tree
