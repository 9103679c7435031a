use Rattle.std.proofs.Common.{◌≡◌, ◌*◌, replicate, refl, ap, ◌∙◌}
use Rattle.grid_graph.specs.Flat.{tiles}
use Rattle.lower_bound.specs.TileCosts.{no_cost}
use Rattle.lower_bound.proofs.CostLists.{none_kept}
use Rattle.lower_bound.proofs.tile_costs.TileCosts.new.Goals as goal

pub invariant_of-result : goal.invariant_of-result
invariant_of-result c =
    let flat = c.flat_of-flat.result in
    let count : c.cols.result * c.rows.result ≡ tiles flat = rw (c.cols.ensures, c.rows.ensures) refl in
    let is = none_kept flat c.in_ok-costs.costs.items (c.in_ok-costs.ensures.items_if_clones_equal (λ y same. same) ∙ ap (λ n. replicate (2 * n) no_cost) count) in
    record { known = is.known; listed = is.listed; under = is.under }
