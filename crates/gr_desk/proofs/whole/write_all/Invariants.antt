use Rattle.std.proofs.Common.{◌≡◌, length, ◌-◌, ◌≤◌, take}
use Rattle.gr_desk.specs.Runs.{Adds}
use Rattle.gr_desk.proofs.whole.write_all.Given as goal

abbrev pub invariant-loop-at : goal.invariant-loop-at
invariant-loop-at g l = record {
  within : l.at ≤ length l.bytes;
  adds : Adds (g.D.Desk.told l.initial.desk) (g.D.Desk.told l.desk) l.port (take l.at l.bytes);
  quiet : (g.D.Desk.told l.desk).out_faults ≡ (g.D.Desk.told l.initial.desk).out_faults;
}

abbrev pub decreases-loop-at : goal.decreases-loop-at
decreases-loop-at g l = length l.bytes - l.at
