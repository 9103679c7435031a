use Rattle.std.proofs.Common.{length}
use Rattle.straight_runs.proofs.marks.+next_in.Given as goal

-- the rows that are left
abbrev pub decreases-next_in : goal.decreases-next_in
decreases-next_in l = length l.rows.now
