use Rattle.std.proofs.Common.{ℕ, ◌≡◌, ◌<◌, ◌+◌}
use Rattle.steiner_tables.specs.Masks.{bit}
use Rattle.steiner_tables.proofs.terminal_masks.are_parts.Given as goal

-- the terminals before this place are in one of the parts
abbrev pub invariant-loop-place : goal.invariant-loop-place
invariant-loop-place l = (k : ℕ) → k < l.place → bit l.mask k ≡ bit l.one k + bit l.other k
