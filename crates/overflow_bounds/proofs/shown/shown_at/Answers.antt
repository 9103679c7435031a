use Rattle.std.proofs.Common.{◌≡◌, ℕ, ◌+◌, ◌-◌, ◌/◌, ◌<◌, min, Result, ◌∙◌, ap, arith}
use Rattle.std.proofs.Common.Result.{Ok, Err}
use Rattle.std.specs.Int.{div_ceil}
use Rattle.std.specs.Result.{OkIff, result_unwrap_or}
use Rattle.dual_bound.specs.LeastOverflow.{least_overflow}
use Rattle.dual_bound.specs.WholeWires.{whole_cost}
use Rattle.overflow_bounds.specs.Units.{unit_at}
use Rattle.overflow_bounds.proofs.Units.{rounded_up}
use Rattle.overflow_bounds.proofs.shown.shown_at.Goals as goal

-- a number that fits, or the greatest one
fitting : {E : Type 0} (r : Result ℕ E) (n limit : ℕ) → OkIff r (n < limit + 1) n → result_unwrap_or r limit ≡ min n limit
fitting (Ok x) n limit (below, is) = is ∙ omega (arith, below)
fitting (Err e) n limit above = omega (arith, above)

pub returns : goal.returns
returns c =
    let w = c.args.wires.now in
    let cost = whole_cost w.grid.now w.prices.now (unit_at w.grid.now w.prices.now w.units.now c.args.most) in
    let beyond : c.saturating_sub-beyond.result ≡ c.args.total - cost = c.saturating_sub-beyond.ensures ∙ ap (λ n. c.args.total - n) c.whole_cost.ensures in
    let quotient : c.div_ceil.result ≡ least_overflow c.args.total cost c.args.most =
    c.div_ceil.ensures ∙ ap (λ n. div_ceil c.saturating_sub-beyond.result n) c.from.ensures ∙ rounded_up c.saturating_sub-beyond.result c.args.most c.requires.some
    ∙ ap (λ n. (n + (c.args.most - 1)) / c.args.most) beyond in
    c.unwrap_or.ensures ∙ fitting c.try_from.result c.div_ceil.result 18446744073709551615 c.try_from.ensures ∙ ap (λ n. min n 18446744073709551615) quotient
