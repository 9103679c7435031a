use Rattle.std.proofs.Common.{◌≡◌, ◌<◌, ℕ, get_or}
use Rattle.grid_base.specs.Lists.{At}
use Rattle.steiner_tables.specs.Masks.{single}
use Rattle.overflow_bounds.proofs.starting.start_at_end.Given as goal

abbrev pub invariant-loop-place : goal.invariant-loop-place
invariant-loop-place l = (place n : ℕ) → place < l.place → At l.ends place n → single place ≡ l.mask → get_or l.row n 0 ≡ 0
