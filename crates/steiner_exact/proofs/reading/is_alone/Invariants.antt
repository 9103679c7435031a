use Rattle.std.proofs.Common.{ℕ, ◌≡◌, ◌<◌}
use Rattle.grid_base.specs.Lists.{At}
use Rattle.steiner_tables.specs.Masks.{single}
use Rattle.steiner_exact.proofs.reading.is_alone.Given as goal

-- no terminal before this place is the vertex and makes up the mask
abbrev pub invariant-loop-place : goal.invariant-loop-place
invariant-loop-place l = (k : ℕ) → k < l.place → At l.terminals k (record { 0 = l.v.0 }) → ¬ (l.mask ≡ single k)
