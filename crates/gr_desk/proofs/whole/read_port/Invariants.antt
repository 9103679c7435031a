use Rattle.std.proofs.Common.{◌≡◌, length, ◌-◌, ◌+◌, ◌≤◌, ◌<◌, ◌^◌}
use Rattle.gr_desk.specs.Runs.{Takes}
use Rattle.gr_desk.proofs.whole.read_port.Given as goal

abbrev pub invariant-loop-port : goal.invariant-loop-port
invariant-loop-port g l = record {
  within : length l.all.items ≤ l.limit + 1;
  small : l.limit < 2 ^ 32;
  takes : Takes (g.D.Desk.told l.initial.desk) (g.D.Desk.told l.desk) l.port l.all.items;
  quiet : (g.D.Desk.told l.desk).in_faults ≡ (g.D.Desk.told l.initial.desk).in_faults;
}

abbrev pub decreases-loop-port : goal.decreases-loop-port
decreases-loop-port g l = l.limit + 1 - length l.all.items
