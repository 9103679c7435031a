use Rattle.std.proofs.Common.{◌≡◌, ◌≤◌, ◌-◌, ℕ, List, ◌++◌, length, take}
use Rattle.ispd_reader.specs.Readers.{HasReached}
use Rattle.ispd_reader.proofs.progress.Progress.read.Given as goal

-- the bytes so far were read
abbrev pub invariant-loop-at : goal.invariant-loop-at
invariant-loop-at l = (l.at ≤ length l.bytes) × ((text : List ℕ) → length text ≡ l.start → HasReached l.fn.self text → HasReached l.self (text ++ take l.at l.bytes))

abbrev pub decreases-loop-at : goal.decreases-loop-at
decreases-loop-at l = length l.bytes - l.at
