use Rattle.std.proofs.Common.{◌≡◌}
use Rattle.judge_laws.proofs.Kept.{kept}
use Rattle.unavoidable_cli.proofs.PricedEdges.{has_price, with_price}
use Rattle.unavoidable_cli.proofs.price_lists.priced_edges.Given as goal

-- those with a price among the edges that were looked at
abbrev pub invariant-loop-e : goal.invariant-loop-e
invariant-loop-e l = l.edges.items ≡ kept (has_price l.prices) (with_price l.prices) l.e
