use Rattle.std.proofs.Common.{ℕ, ◌≤◌, take}
use Rattle.std.specs.List.{All}
use Rattle.tile_graphs.specs.Bundles.{sets_of_ends}
use Rattle.tile_graphs.proofs.bundles.most_sets.Given as goal

-- the most sets so far
abbrev pub invariant-loop-bundle : goal.invariant-loop-bundle
invariant-loop-bundle l = record {
  within : All (λ b. sets_of_ends b.ends.nodes ≤ l.most) (take l.bundle-index l.bundles);
  least : (n : ℕ) → All (λ b. sets_of_ends b.ends.nodes ≤ n) l.bundles → l.most ≤ n;
}
