use Rattle.std.proofs.Common.{◌≡◌, ℕ, Option}
use Rattle.grid_base.specs.Flood.{IsFlooding}
use Rattle.grid_base.specs.Lists.{At}
use Rattle.grid_base.proofs.Floods.{MarksSteps}
use Rattle.grid_base.proofs.flooding.spread.Given as goal

-- whatever flood the vertex was met in goes on, and the ends of the steps so far are marked
abbrev pub invariant-loop-step : goal.invariant-loop-step
invariant-loop-step g l = record {
  flooding : (before : ℕ → Option ℕ) (start n : ℕ) → At l.initial.met.items n l.from →
      IsFlooding l.size (g.P.PieceSet.pieces l.pieces) before (g.M.Marks.mark_of l.initial.marks) (g.M.Marks.next_mark l.initial.marks) start l.initial.met.items n →
      IsFlooding l.size (g.P.PieceSet.pieces l.pieces) before (g.M.Marks.mark_of l.marks) (g.M.Marks.next_mark l.initial.marks) start l.met.items n;
  listed : (n : ℕ) → At l.initial.met.items n l.from → At l.met.items n l.from;
  steps : MarksSteps l.size (g.P.PieceSet.pieces l.pieces) (g.M.Marks.mark_of l.marks) l.from.0 l.step-index;
  next : g.M.Marks.next_mark l.marks ≡ g.M.Marks.next_mark l.initial.marks;
  limit : g.M.Marks.limit l.marks ≡ g.M.Marks.limit l.initial.marks;
}
