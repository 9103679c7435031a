use Rattle.std.proofs.Common.{◌≡◌, ℕ, ◌<◌, ◌≤◌, get_or}
use Rattle.reference_programs.proofs.Marks.{merged}
use Rattle.reference_programs.proofs.reference_joins.merge.Given as goal

abbrev pub invariant-loop-mark : goal.invariant-loop-mark
invariant-loop-mark l = record {
  before : (k : ℕ) → k < l.mark-index → get_or l.marks k 0 ≡ merged l.old l.new (get_or l.initial.marks k 0);
  after : (k : ℕ) → l.mark-index ≤ k → get_or l.marks k 0 ≡ get_or l.initial.marks k 0;
}
