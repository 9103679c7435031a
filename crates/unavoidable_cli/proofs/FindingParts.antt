-- What a finding's parts amount to.
use Rattle.std.proofs.Common.{◌≡◌, ◌≤◌, ◌<◌, ℕ, zero, suc, List, [], All, None, true, ltb, refl, sym, subst, arith, inl, inr}
use Rattle.std.specs.Prelude.{filter, slice_index}
use Rattle.std.specs.List.{range_with_len}
use Rattle.std.proofs.lemmas.Bool.{lt-ltb, ltb-true}
use Rattle.std.proofs.lemmas.List.Elements.{All-filter, All-map, filter_passes}
use Rattle.std.proofs.lemmas.List.FromFn.{get_or-range_with_len, length-range_with_len}
use Rattle.cert_text.specs.declared.cert.Cert.{Cert}
use Rattle.edge_prices.specs.Weights.{AreEdgePrices}
use Rattle.grid_base.specs.declared.piece.Piece.TheVariants.{Edge}
use Rattle.grid_graph.specs.declared.design.Design.{Design}
use Rattle.grid_graph.specs.declared.grid.Grid.{Grid}
use Rattle.grid_graph.specs.declared.ground.Ground.{Ground}
use Rattle.grid_graph.specs.declared.ground.Ground.TheVariants.{Open}
use Rattle.grid_graph.specs.declared.kind.Kind.TheVariants as kinds
use Rattle.grid_graph.specs.Grids.{capacity, edge_numbers, kind}
use Rattle.grid_graph.proofs.Allowed.{Allows-IsPiece}
use Rattle.route_judge.specs.Judgements.{IsJudged}
use Rattle.route_judge.specs.Orders.{AreRoutes, bound_objections, objections_but_bound, route_objections}
use Rattle.route_judge.proofs.Found.{none_before}
use Rattle.route_text.specs.declared.block.Block.{Block}
use Rattle.unavoidable_cli.specs.declared.finding.Finding.{Finding}
use Rattle.unavoidable_cli.specs.declared.priced_edge.PricedEdge.{PricedEdge}
use Rattle.unavoidable_cli.specs.Findings.{IsFinding, IsSameOrBetter}
use Rattle.unavoidable_cli.specs.PricedEdges.{IsEdgeOf, priced_edges}
use Rattle.unavoidable_cli.specs.Report.{HasEdges}
use Rattle.unavoidable_cli.proofs.PricedEdges.{has_price, with_price}

-- blocks that are accepted with a certificate are routes
pub judged_routes : (d : Design) (over : List Ground) (blocks : List Block) (cert : Cert) → IsJudged d over blocks cert None → AreRoutes d blocks
judged_routes d over blocks cert judged =
    let but_bound = none_before d (objections_but_bound d over blocks cert judged.measure) (bound_objections cert judged.found) judged.first in
    none_before d (route_objections d blocks) _ but_bound

-- ---- priced edges are edges of the grid

positive_or : (n : ℕ) → (n ≡ 0 → ⊥) → 0 < n
positive_or zero none = absurd (none refl)
positive_or (suc n) none = omega arith

-- an edge with a price is open
priced_open : (g : Grid) (prices : List ℕ) (e : ℕ) → AreEdgePrices g prices → e < edge_numbers g → has_price prices e ≡ true → kind g e ≡ kinds.Open
priced_open g prices e are inside has =
    let positive : 0 < slice_index prices e = ltb-true 0 (slice_index prices e) has in
    let some : 0 < capacity g e = positive_or (capacity g e) (λ none. (let no : slice_index prices e ≡ 0 = are.listed.closed e inside none in absurd (omega (arith, positive, no)))) in
    let is : ltb 0 (capacity g e) ≡ true = lt-ltb 0 (capacity g e) some in
    rw is refl

-- so it is one of the grid
pub priced_inside : (g : Grid) (prices : List ℕ) → AreEdgePrices g prices → All (IsEdgeOf g) (priced_edges g prices)
priced_inside g prices are =
    let numbers = range_with_len 0 (edge_numbers g) in
    let kept = filter (has_price prices) numbers in
    let below : All (λ e. e < edge_numbers g) numbers =
    λ k d within. (let long = length-range_with_len 0 (edge_numbers g) in let is = get_or-range_with_len 0 (edge_numbers g) k d (omega (arith, within, long)) in omega (arith, within, long, is)) in
    let kept_below = All-filter (has_price prices) (λ e. e < edge_numbers g) numbers below in
    let kept_priced = filter_passes (has_price prices) numbers in
    All-map (IsEdgeOf g) (with_price prices) kept
    (λ k d within. Allows-IsPiece g Open (Edge (record { 0 = _ })) (priced_open g prices _ are (kept_below k d within) (kept_priced k d within)))

all_of : (g : Grid) (prices : List ℕ) (edges : List PricedEdge) → AreEdgePrices g prices → edges ≡ priced_edges g prices → All (IsEdgeOf g) edges
all_of g prices edges are is = subst (λ (xs : List PricedEdge). All (IsEdgeOf g) xs) (sym is) (priced_inside g prices are)

none_of : (g : Grid) (edges : List PricedEdge) → edges ≡ [] → All (IsEdgeOf g) edges
none_of g edges is = subst (λ (xs : List PricedEdge). All (IsEdgeOf g) xs) (sym is) (λ k d within. absurd (omega (arith, within)))

pub finding_edges : (over : List Ground) (blocks : List Block) (cert : Cert) (f : Finding) → IsFinding over blocks cert f → HasEdges f
finding_edges over blocks cert f is = record {
  bottleneck = elim is.new [
    | inl same ↦ none_of f.design.grid f.bottleneck.items same.1
    | inr better ↦ all_of f.design.grid better.prices f.bottleneck.items better.pricing.1.are_prices better.pricing.1.edges_are
  ];
  cut = elim is.shown [
    | inl none ↦ none_of f.design.grid f.cut.items none.1
    | inr some ↦ all_of f.design.grid some.1.0 f.cut.items some.1.1.are_prices some.1.1.edges_are
  ];
}

-- ---- the new certificate

-- what is shown is at most more than what it is at most
pub better_most : (d : Design) (old new : Cert) (edges : List PricedEdge) (least most : ℕ) → least ≤ most → IsSameOrBetter d old new edges least → IsSameOrBetter d old new edges most
better_most d old new edges least most at (inl same) = inl same
better_most d old new edges least most at (inr is) = inr (record {
  prices = is.prices;
  is_new = is.is_new;
  is_bound = is.is_bound;
  above = is.above;
  any_budget = is.any_budget;
  pricing = (is.pricing.0, is.pricing.1, omega (arith, is.pricing.2, at));
})
