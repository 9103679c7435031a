use Rattle.std.proofs.Common.{take}
use Rattle.std.specs.Prelude.{filter, flat_map}
use Rattle.gr_desk.specs.Pens.{Puts, pen_told, HasSameDesk}
use Rattle.grid_base.specs.Lines.{is_along}
use Rattle.route_text.specs.Pieces.{run_text}
use Rattle.route_text.proofs.net.put_runs.Given as goal

abbrev pub invariant-loop-at : goal.invariant-loop-at
invariant-loop-at g l = record {
  same_desk : HasSameDesk l.fn.pen l.pen;
  puts : Puts (pen_told g.D.Desk.told l.fn.pen) (pen_told g.D.Desk.told l.pen) (flat_map (λ p. run_text l.grid (filter (is_along l.axis) l.tree) (is_along l.axis p) p) (take l.at l.tree));
}
