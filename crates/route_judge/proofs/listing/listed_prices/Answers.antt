use Rattle.std.proofs.Common.{◌≡◌, ◌+◌, ◌≤◌, cond, ltb, [], ◌∷◌, ◌++◌, map, slice_index, sym, ◌∙◌, ap, arith}
use Rattle.std.specs.List.{range_with_len}
use Rattle.grid_base.specs.Numbers.{vertices}
use Rattle.grid_graph.specs.Grids.{edge_numbers}
use Rattle.edge_prices.specs.Weights.{is_open}
use Rattle.route_judge.specs.Counts.{open_below, listed_price}
use Rattle.route_judge.proofs.OpenEdges.{as_number, at_most_one, open_below-more, listed_more}
use Rattle.route_judge.proofs.listing.listed_prices.Goals as goal

pub loop-e-preserved : goal.loop-e-preserved
loop-e-preserved c =
    let g = c.args.grid.now in
    let listed = c.args.listed.now in
    let e = c.loop-e.e in
    let price : c.price_of.result ≡ listed_price g listed e =
    c.price_of.ensures ∙ ap (λ n. cond (ltb 0 n) (slice_index listed c.loop-e.place) 0) c.capacity-is_open.ensures.value
    ∙ ap (λ i. cond (is_open g e) (slice_index listed i) 0) c.loop-e.invariant.place in
    let more : c.from-place.result ≡ cond (is_open g e) 1 0 = c.from-place.ensures ∙ as_number (ltb 0 c.capacity-is_open.result) ∙ ap (λ n. cond (ltb 0 n) 1 0) c.capacity-is_open.ensures.value in
    let at_most : c.from-place.result ≤ 1 = rw c.from-place.ensures (at_most_one (ltb 0 c.capacity-is_open.result)) in
    record {
      prices = c.in_ok-push.ensures.items ∙ ap (λ xs. xs ++ c.price_of.result ∷ []) c.loop-e.invariant.prices
          ∙ ap (λ x. map (listed_price g listed) (range_with_len 0 e) ++ x ∷ []) price ∙ sym (listed_more g listed e);
      place = ap (λ n. n + c.from-place.result) c.loop-e.invariant.place ∙ ap (λ n. open_below g e + n) more ∙ sym (open_below-more g e);
      small = omega (arith, c.loop-e.invariant.small, at_most);
    }

pub returns : goal.returns
returns c =
    let g = c.args.grid.now in
    let whole : c.loop-e.e ≡ edge_numbers g = omega (arith, ap vertices c.size.ensures) in
    c.loop-e.invariant.prices ∙ ap (λ n. map (listed_price g c.args.listed.now) (range_with_len 0 n)) whole
