use Rattle.std.proofs.Common.{ℕ, ◌≡◌, ◌<◌, min, length, slice_index}
use Rattle.terminal_balls.proofs.cut.cut_at.Given as goal

-- the radii before this place are cut
abbrev pub invariant-loop-place : goal.invariant-loop-place
invariant-loop-place l = record {
  long : length l.cut ≡ 5;
  cut : (place : ℕ) → place < l.place → slice_index l.cut place ≡ min (slice_index l.radii place) l.limit;
}
