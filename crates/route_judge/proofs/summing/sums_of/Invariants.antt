use Rattle.std.proofs.Common.{List, take, None}
use Rattle.std.specs.Prelude.{flat_map}
use Rattle.std.specs.List.{enumerate_from}
use Rattle.grid_base.specs.declared.piece.Piece.{Piece}
use Rattle.route_judge.specs.Objections.{Finds}
use Rattle.route_judge.specs.Orders.{block_objections}
use Rattle.route_judge.specs.RunningMeasures.{AreSums}
use Rattle.route_judge.specs.TestedBlocks.{AreTaken, AreSetsAfter}
use Rattle.route_judge.proofs.summing.sums_of.Given as goal

-- nothing is objected to the blocks so far, and the sums are those of the sets that they give the nets
abbrev pub invariant-loop-number : goal.invariant-loop-number
invariant-loop-number g l = record {
  clear : Finds l.design (flat_map (block_objections (g.B.Blocks.list l.blocks)) (take l.number (enumerate_from 0 (g.B.Blocks.list l.blocks)))) None;
  taken : AreTaken l.design (take l.number (g.B.Blocks.list l.blocks)) l.taken.nets.items;
  running : (trees : List (List Piece)) × AreSetsAfter l.design (take l.number (g.B.Blocks.list l.blocks)) trees × AreSums l.design l.grounds trees l.sums;
}
