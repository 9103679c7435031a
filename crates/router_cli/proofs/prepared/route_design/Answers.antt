use Rattle.std.proofs.Common.{◌≡◌, ℕ, List, ◌∙◌, ap}
use Rattle.std.proofs.lemmas.Slice.Zip.{AllZip-long}
use Rattle.edge_prices.specs.Vectors.{price_vector}
use Rattle.edge_prices.proofs.PriceVectors.{price_vector-IsPriceList}
use Rattle.routing_stages.specs.Phases.{phases_loads}
use Rattle.tree_set.specs.Routings.{IsRoute}
use Rattle.router_cli.specs.Certified.{IsCertified}
use Rattle.router_cli.proofs.Bounded.{states_bound}
use Rattle.router_cli.proofs.Routed.{routes_are_pieces}
use Rattle.router_cli.proofs.prepared.route_design.Goals as goal

pub certificate-requires-clause-one_each : goal.certificate-requires-clause-one_each
certificate-requires-clause-one_each g c =
    let d = c.args.design in
    λ _ _. rw c.list.ensures (AllZip-long (IsRoute d.grid) d.nets c.in_ok-routed.routed.trees c.in_ok-routed.ensures.routing)

pub certificate-requires-clause-pieces : goal.certificate-requires-clause-pieces
certificate-requires-clause-pieces g c =
    let d = c.args.design in
    λ _ _. rw c.list.ensures (routes_are_pieces d.grid d.nets c.in_ok-routed.routed.trees c.in_ok-routed.ensures.routing)

pub certificate-requires-clause-prices : goal.certificate-requires-clause-prices
certificate-requires-clause-prices g c =
    let d = c.args.design in
    let s = c.in_ok-shared.shared in
    let vector = c.in_ok-routed.ensures.prices ∙ c.round-chosen.ensures.prices ∙ c.in_ok-shared.ensures.prices in
    λ _ _. rw (c.as_slice.ensures.value, vector) (price_vector-IsPriceList d.grid s.loads.items 1 c.args.settings.now.budget)

pub returns-clause-routed : goal.returns-clause-routed
returns-clause-routed g c =
    let d = c.args.design in
    let s = c.in_ok-shared.shared in
    let shared = c.in_ok-shared.ensures in
    let chosen = c.round-chosen.ensures in
    let routed = c.in_ok-routed.ensures in
    let repaired = routed.repaired in
    let cert = c.in_ok-cert.ensures in
    let budget = c.args.settings.now.budget in
    let trees = c.in_ok-routed.routed.trees in
    let prices = c.in_ok-routed.routed.prices.items in
    let prices_are : prices ≡ price_vector d.grid (phases_loads d.grid d.nets s.phases) 1 budget =
    routed.prices ∙ chosen.prices ∙ shared.prices ∙ ap (λ (loads : List ℕ). price_vector d.grid loads 1 budget) shared.whole.loads in
    let certified : IsCertified d budget trees prices c.in_ok-cert.cert =
    rw (c.list.ensures, c.as_slice.ensures.value) at cert.certified in
    record {
      routing = routed.routing;
      run = record {
        phases = s.phases;
        count = shared.phases;
        sharing = shared.run.run;
        picked = c.round-chosen.result.trees;
        picks = chosen.chosen;
        routings = repaired.routings;
        begins = repaired.begins;
        repairs = repaired.run;
        result = repaired.result;
        rounded_is = routed.rounded;
        rounds_are = repaired.rounds;
        prices_are = prices_are;
      };
      certified = certified;
      bounds = cert.bounds;
      some = states_bound d (phases_loads d.grid d.nets s.phases) 1 budget trees prices c.in_ok-cert.cert prices_are certified;
    }
