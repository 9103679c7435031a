-- What blocks give the nets of a design, where nets may lack one.
use Rattle.std.specs.Prelude.{ℕ, ◌<◌, ◌≤◌, ◌↔◌, All, Bool, Contains, List, length}
use Rattle.grid_base.specs.declared.piece.Piece.{Piece}
use Rattle.grid_base.specs.Lists.{At, HasNoRepeats}
use Rattle.grid_graph.specs.declared.design.Design.{Design}
use Rattle.grid_graph.specs.declared.ground.Ground.TheVariants.{WithChoked}
use Rattle.grid_graph.specs.declared.net_spec.NetSpec.{NetSpec}
use Rattle.route_text.specs.declared.block.Block.{Block}
use Rattle.tree_set.specs.Routings.{KeepsTo}
use Rattle.route_judge.specs.NetSets.{AreSetsOf, HasBlock, IsJoining}
use Rattle.route_judge.specs.TestedBlocks.{AreTaken}

-- the net has two or more terminals and no block
abbrev pub LacksBlock : List Block → NetSpec → Type 0
LacksBlock blocks n = (2 ≤ length n.terminals) × (¬ HasBlock blocks n.id)

-- the places of the nets that lack a block, each once
pub record AreMissing (d : Design) (blocks : List Block) (missing : List ℕ) : Type 0 where
  pub places : All (λ k. k < length d.nets) missing
  pub once : HasNoRepeats missing
  pub each : (k : ℕ) (n : NetSpec) → At d.nets k n → Contains missing k ↔ LacksBlock blocks n

-- the sets that the blocks give the nets, none of which has a wall, which nets have a block, and which of the others lack one; the
-- set of a net that doesn't lack one joins the net's terminals
pub record AreBlockSets (d : Design) (blocks : List Block) (trees : List (List Piece)) (has : List Bool) (missing : List ℕ) : Type 0 where
  pub sets : AreSetsOf d blocks trees
  pub no_wall : All (KeepsTo d.grid WithChoked) trees
  pub have : AreTaken d blocks has
  pub lacking : AreMissing d blocks missing
  pub joining : (k : ℕ) (n : NetSpec) (tree : List Piece) → At d.nets k n → At trees k tree → ¬ LacksBlock blocks n → IsJoining d.grid n tree
