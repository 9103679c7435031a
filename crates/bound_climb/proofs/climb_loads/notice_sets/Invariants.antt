use Rattle.std.proofs.Common.{take}
use Rattle.edge_prices.specs.KeptLists.{loads_of, KeepsSetting}
use Rattle.bound_climb.specs.ClimbTurns.{GainsSets}
use Rattle.bound_climb.proofs.climb_loads.notice_sets.Given as goal

-- the loads of the sets so far were put on
abbrev pub invariant-loop-net : goal.invariant-loop-net
invariant-loop-net l = record {
  gains : GainsSets l.design.grid l.design.nets (take l.net l.trees) (loads_of l.initial.kept) (loads_of l.kept);
  setting : KeepsSetting l.initial.kept l.kept;
}
