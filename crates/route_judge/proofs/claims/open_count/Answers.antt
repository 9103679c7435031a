use Rattle.std.proofs.Common.{◌≡◌, ◌+◌, ◌≤◌, cond, ltb, sym, ◌∙◌, ap, arith}
use Rattle.grid_base.specs.Numbers.{vertices}
use Rattle.grid_graph.specs.Grids.{edge_numbers}
use Rattle.edge_prices.specs.Weights.{is_open}
use Rattle.route_judge.specs.Counts.{open_below}
use Rattle.route_judge.proofs.OpenEdges.{as_number, at_most_one, open_below-more}
use Rattle.route_judge.proofs.claims.open_count.Goals as goal

pub loop-e-preserved : goal.loop-e-preserved
loop-e-preserved c =
    let g = c.args.grid.now in
    let e = c.loop-e.e in
    let more : c.from-count.result ≡ cond (is_open g e) 1 0 = c.from-count.ensures ∙ as_number (ltb 0 c.capacity.result) ∙ ap (λ n. cond (ltb 0 n) 1 0) c.capacity.ensures.value in
    let at_most : c.from-count.result ≤ 1 = rw c.from-count.ensures (at_most_one (ltb 0 c.capacity.result)) in
    record {
      counted = ap (λ n. n + c.from-count.result) c.loop-e.invariant.counted ∙ ap (λ n. open_below g e + n) more ∙ sym (open_below-more g e);
      small = omega (arith, c.loop-e.invariant.small, at_most);
    }

pub returns : goal.returns
returns c =
    let g = c.args.grid.now in
    let whole : c.loop-e.e ≡ edge_numbers g = omega (arith, ap vertices c.size.ensures) in
    c.loop-e.invariant.counted ∙ ap (open_below g) whole
