-- A desk that tells its counts of faults alone.
use Rattle.std.specs.Prelude.{None}
use Rattle.gr_desk.specs.declared.fault_counts.FaultCounts.{FaultCounts}
use Rattle.gr_desk.specs.Told.{Told}

-- nothing but these counts is told
abbrev pub untold : FaultCounts → Told
untold faults = record {
  files = λ name. None;
  ports = λ port. record { rest = None; written = None; target = None; expected = None; state = None };
  strayed = None;
  in_faults = faults.in_faults;
  out_faults = faults.out_faults;
}
