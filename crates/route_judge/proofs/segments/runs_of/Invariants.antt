use Rattle.std.proofs.Common.{[], take, None}
use Rattle.std.specs.Prelude.{flat_map}
use Rattle.std.specs.List.{enumerate_from}
use Rattle.route_judge.specs.Lines.{ArePut}
use Rattle.route_judge.specs.Objections.{Finds}
use Rattle.route_judge.specs.Orders.{segment_objections}
use Rattle.route_judge.proofs.OnSegments.{IsOnSome}
use Rattle.route_judge.proofs.segments.runs_of.Given as goal

-- nothing is objected to the segments so far, and their pieces were put
abbrev pub invariant-loop-i : goal.invariant-loop-i
invariant-loop-i l = record {
  clear : Finds l.design (flat_map (segment_objections l.number) (take l.i (enumerate_from 0 l.block.segments.now))) None;
  put : ArePut l.design.grid (IsOnSome l.design.grid (take l.i l.block.segments.now)) [] l.runs.items;
}
