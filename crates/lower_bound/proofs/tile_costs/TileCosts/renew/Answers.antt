use Rattle.std.proofs.Common.{◌≡◌, ◌<◌, ◌≤◌, ℕ, List, length, slice_index, sym, subst, ◌∙◌}
use Rattle.std.proofs.lemmas.List.{with_items_is}
use Rattle.grid_base.specs.declared.size.Size.{Size}
use Rattle.grid_base.specs.Numbers.{edge_axis}
use Rattle.grid_graph.specs.Floors.{floor_along}
use Rattle.grid_graph.specs.TilePieces.{AreLeastBetweenTiles}
use Rattle.grid_graph.specs.Weighed.{WeighsOnlyPieces}
use Rattle.lower_bound.specs.TileCosts.{costs_between}
use Rattle.lower_bound.proofs.CostLists.{AreKept, kept, costs_known, between_layers}
use Rattle.lower_bound.proofs.tile_costs.TileCosts.renew.Goals as goal

pub invariant_of-self : goal.invariant_of-self
invariant_of-self g c =
    let s = c.args.size in
    let flat = c.args.self.now.size in
    let w = c.args.weights.now in
    let new = c.write_costs.new.costs in
    let floors = c.floors_of-self.result in
    let written = with_items_is c.args.self.now.costs new (c.write_costs.auto.costs ∙ c.as_mut_slice.ensures.len) in
    let pieces = g.W.Weights.pieces w in
    let inside : WeighsOnlyPieces s pieces = subst (λ (x : Size). WeighsOnlyPieces x pieces) (sym c.requires.size) (g.met.W.Weights.inside w) in
    let read : c.as_slice.result.now ≡ new = c.as_slice.ensures.value ∙ written in
    let floored : (e : ℕ) → e < length new → floor_along floors (edge_axis e) ≤ slice_index new e =
    subst (λ (xs : List ℕ). (e : ℕ) → e < length xs → floor_along floors (edge_axis e) ≤ slice_index xs e) read c.floors_of-self.ensures.floored in
    let all : AreKept flat new floors = kept flat new floors (costs_known flat s pieces new floors c.requires.flat inside (g.met.W.Weights.small w) c.write_costs.ensures floored c.floors_of-self.ensures.within) in
    let is = subst (λ (xs : List ℕ). AreKept flat xs floors) (sym written) all in
    record { known = is.known; listed = is.listed; under = is.under }

pub returns-clause-between : goal.returns-clause-between
returns-clause-between g c =
    let s = c.args.size in
    let w = c.args.weights.now in
    let new = c.write_costs.new.costs in
    let written = with_items_is c.args.self.now.costs new (c.write_costs.auto.costs ∙ c.as_mut_slice.ensures.len) in
    let pieces = g.W.Weights.pieces w in
    let inside : WeighsOnlyPieces s pieces = subst (λ (x : Size). WeighsOnlyPieces x pieces) (sym c.requires.size) (g.met.W.Weights.inside w) in
    subst (λ (xs : List ℕ). AreLeastBetweenTiles s pieces (costs_between xs)) (sym written) (between_layers s pieces new inside (g.met.W.Weights.small w) c.write_costs.ensures)
