use Rattle.std.proofs.Common.{◌≡◌, length}
use Rattle.grid_graph.proofs.Grounds.{AreGroundsSoFar}
use Rattle.eco_cli.proofs.reporting.grounds_of.Given as goal

-- the grounds of the nets so far
abbrev pub invariant-loop-net : goal.invariant-loop-net
invariant-loop-net l = record {
  long : length l.grounds.items ≡ l.net;
  right : AreGroundsSoFar l.eco.design.grid l.eco.design.nets l.grounds.items;
}
