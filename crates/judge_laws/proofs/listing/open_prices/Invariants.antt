use Rattle.std.proofs.Common.{◌≡◌}
use Rattle.std.specs.Prelude.{slice_index}
use Rattle.edge_prices.specs.Weights.{is_open}
use Rattle.judge_laws.proofs.Kept.{kept}
use Rattle.judge_laws.proofs.listing.open_prices.Given as goal

-- the prices of the open edges among those that were looked at
abbrev pub invariant-loop-e : goal.invariant-loop-e
invariant-loop-e l = l.open.items ≡ kept (is_open l.grid) (slice_index l.prices) l.e
