use Rattle.std.proofs.Common.{◌≡◌, ℕ, ◌<◌, get_or}
use Rattle.edge_prices.specs.Vectors.{price_of}
use Rattle.edge_prices.proofs.resources.Resources.write_prices.Given as goal

-- the entries before this one are written
abbrev pub invariant-loop-entry : goal.invariant-loop-entry
invariant-loop-entry l = (k : ℕ) → k < l.entry → get_or l.out k 0 ≡ price_of l.self.grid.now l.loads l.self.scale l.self.budget k
