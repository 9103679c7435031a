use Rattle.std.proofs.Common.{◌≡◌, ◌-◌, ◌<◌, length}
use Rattle.std.specs.Prelude.{filter, slice_index_or}
use Rattle.grid_base.specs.declared.piece.Piece.{Piece}
use Rattle.grid_base.specs.Numbers.{IsVertex, vertices, edge_along}
use Rattle.grid_base.specs.Lines.{is_along, stride}
use Rattle.tree_set.specs.Runs.{run_end}
use Rattle.route_text.specs.Standing.{IsBelow}
use Rattle.route_text.proofs.runs.run_end.Given as goal

-- the run goes on to where it stands, and the edge from there, if there is one, stands behind this place of the set
abbrev pub invariant-loop-next : goal.invariant-loop-next
invariant-loop-next l = record {
  vertex : IsVertex l.size l.end.0;
  same_end : run_end l.size (filter (is_along l.axis) l.tree) l.end.0 ≡ run_end l.size (filter (is_along l.axis) l.tree) l.fn.start.0;
  stride : l.step ≡ stride l.axis l.size;
  within : l.place < length l.tree;
  below : (other : Piece) → IsBelow (edge_along l.axis l.end.0).0 (slice_index_or l.tree l.place other);
}

abbrev pub decreases-loop-next : goal.decreases-loop-next
decreases-loop-next l = vertices l.size - l.end.0
