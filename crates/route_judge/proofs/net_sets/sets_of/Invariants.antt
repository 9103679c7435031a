use Rattle.std.proofs.Common.{take, None}
use Rattle.std.specs.Prelude.{flat_map}
use Rattle.std.specs.List.{enumerate_from}
use Rattle.route_judge.specs.Objections.{Finds}
use Rattle.route_judge.specs.Orders.{block_objections}
use Rattle.route_judge.specs.TestedBlocks.{AreTaken, AreSetsAfter}
use Rattle.route_judge.proofs.net_sets.sets_of.Given as goal

-- nothing is objected to the blocks so far, and their pieces are the nets' sets
abbrev pub invariant-loop-number : goal.invariant-loop-number
invariant-loop-number g l = record {
  clear : Finds l.design (flat_map (block_objections (g.B.Blocks.list l.blocks)) (take l.number (enumerate_from 0 (g.B.Blocks.list l.blocks)))) None;
  taken : AreTaken l.design (take l.number (g.B.Blocks.list l.blocks)) l.taken.nets.items;
  sets : AreSetsAfter l.design (take l.number (g.B.Blocks.list l.blocks)) l.trees.items;
}
