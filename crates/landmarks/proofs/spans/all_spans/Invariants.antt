use Rattle.std.proofs.Common.{ℕ, ◌<◌, ◌≡◌, ◌/◌, ◌%◌, length}
use Rattle.grid_base.specs.Lists.{At}
use Rattle.landmarks.specs.Spans.{span_of}
use Rattle.landmarks.proofs.spans.all_spans.Given as goal

-- the spans before this one
abbrev pub invariant-loop-place : goal.invariant-loop-place
invariant-loop-place l = record {
  long : length l.spans ≡ 128;
  made : (k : ℕ) → k < l.place → At l.spans k (span_of l.landmarks.numbers.items l.terminals (k / 4) (length l.terminals) (k % 4));
}
