use Rattle.std.proofs.Common.{take}
use Rattle.std.specs.Prelude.{flat_map}
use Rattle.std.specs.List.{zip}
use Rattle.gr_desk.specs.Pens.{Puts, pen_told, HasSameDesk}
use Rattle.route_text.specs.RouteText.{net_text}
use Rattle.route_text.proofs.routes.put_nets.Given as goal

abbrev pub invariant-loop-k : goal.invariant-loop-k
invariant-loop-k g l = record {
  same_desk : HasSameDesk l.fn.pen l.pen;
  puts : Puts (pen_told g.D.Desk.told l.fn.pen) (pen_told g.D.Desk.told l.pen) (flat_map (λ x. net_text l.design.grid x.0 x.1) (take l.k (zip l.design.nets l.trees)));
}
