use Rattle.std.proofs.Common.{ℕ, List, length, ◌∙◌, ap, slice_index, arith}
use Rattle.std.proofs.lemmas.List.FromFn.{length-map-range_with_len}
use Rattle.congestion_cells.specs.CutEdges.{cut_edges}
use Rattle.grid_base.specs.declared.size.Size.{Size}
use Rattle.grid_base.specs.Numbers.{vertices}
use Rattle.grid_graph.specs.Grids.{edge_numbers, size_of}
use Rattle.route_judge.specs.Counts.{listed_price, listed_prices}
use Rattle.congestion_cli.proofs.drawn.cut_of.Goals as goal

pub cut_edges-requires-clause-prices : goal.cut_edges-requires-clause-prices
cut_edges-requires-clause-prices c =
    let g = c.args.grid.now in
    let long = ap length c.in_ok-prices.ensures ∙ length-map-range_with_len (listed_price g c.list.result.now) 0 (edge_numbers g) in
    omega (arith, ap vertices c.size.ensures, long, ap length c.as_slice.ensures.value)

pub returns : goal.returns
returns c =
    let g = c.args.grid.now in
    let shown = c.args.shown in
    let prices = c.as_slice.ensures.value ∙ c.in_ok-prices.ensures ∙ ap (λ (l : List ℕ). listed_prices g l) c.list.ensures in
    rw c.in-Some.is (
    c.in_ok-cut_edges.ensures
    ∙ ap (λ (s : Size). cut_edges s (slice_index c.as_slice.result.now) shown) c.size.ensures
    ∙ ap (λ (ps : List ℕ). cut_edges (size_of g) (slice_index ps) shown) prices
    )
