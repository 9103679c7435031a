use Rattle.std.proofs.Common.{◌≡◌, ◌-◌}
use Rattle.grid_base.specs.Flood.{IsFlooding}
use Rattle.grid_base.specs.Numbers.{vertices}
use Rattle.grid_base.proofs.flooding.flood.Given as goal

-- the flood is on its way
abbrev pub invariant-loop-done : goal.invariant-loop-done
invariant-loop-done g l = record {
  flooding : IsFlooding l.size (g.P.PieceSet.pieces l.pieces) (g.M.Marks.mark_of l.fn.marks) (g.M.Marks.mark_of l.marks) (g.M.Marks.next_mark l.fn.marks) l.fn.start.0 l.met.items l.done;
  next : g.M.Marks.next_mark l.marks ≡ g.M.Marks.next_mark l.fn.marks;
  limit : g.M.Marks.limit l.marks ≡ g.M.Marks.limit l.fn.marks;
}

-- each turn does one of the vertices
abbrev pub decreases-loop-done : goal.decreases-loop-done
decreases-loop-done g l = vertices l.size - l.done
