use Rattle.std.proofs.Common.{◌≡◌, List, ℕ, ap, refl, subst, sym, ◌∙◌}
use Rattle.bound_climb.specs.Climbs.{AreClimbSteps, AreGivenLoads, IsBestCandidate, steps_of}
use Rattle.cert_text.specs.declared.cert.Cert.{Cert}
use Rattle.dual_bound.specs.Prices.{ArePricesWith}
use Rattle.edge_prices.specs.Budgets.{most_of}
use Rattle.judge_laws.specs.OpenPrices.{with_prices}
use Rattle.route_judge.specs.Counts.{listed_prices}
use Rattle.route_judge.proofs.OpenEdges.{listed_are_prices}
use Rattle.climb_cli.proofs.BlockLoads.{may_be_given}
use Rattle.climb_cli.proofs.NewBounds.{IsRightCert, accepted_routes, right_cert}
use Rattle.climb_cli.proofs.new_cert.climbed_cert.Goals as goal

pub loads_of_blocks-requires-clause-routes : goal.loads_of_blocks-requires-clause-routes
loads_of_blocks-requires-clause-routes g c = accepted_routes c.args.grounded.now.design c.args.grounded.now.grounds.items c.args.blocks.now c.args.cert c.requires.judged

pub climb-requires-clause-prices : goal.climb-requires-clause-prices
climb-requires-clause-prices g c κs within =
    let grid = c.args.grounded.now.design.grid in
    let cert = c.args.cert in
    subst (λ (ps : List ℕ). ArePricesWith grid ps cert.budget) (sym (rw c.list.ensures at (c.as_slice.ensures.value ∙ c.in_ok-prices.ensures)))
    (record { edges = listed_are_prices grid cert.prices c.requires.cert.prices; wirelength = c.requires.cert.budget })

pub climb-requires-clause-loads : goal.climb-requires-clause-loads
climb-requires-clause-loads g c κs within =
    let d = c.args.grounded.now.design in
    subst (λ (xs : List ℕ). AreGivenLoads d.grid xs) (sym c.as_slice-2.ensures.value) (may_be_given d c.args.blocks.now c.in_ok-loads.loads.items c.in_ok-loads.ensures)

pub returns : goal.returns
returns g c =
    let d = c.args.grounded.now.design in
    let over = c.args.grounded.now.grounds.items in
    let blocks = c.args.blocks.now in
    let cert = c.args.cert in
    let turns = c.args.turns in
    let climbed = c.in_ok-climbed.climbed in
    let loads = c.in_ok-loads.loads.items in
    let told = c.in_ok-climbed.ensures in
    let prices : c.as_slice.result.now ≡ listed_prices d.grid cert.prices = rw c.list.ensures at (c.as_slice.ensures.value ∙ c.in_ok-prices.ensures) in
    let from : c.as_slice-2.result.now ≡ loads = c.as_slice-2.ensures.value in
    let best : IsBestCandidate d (listed_prices d.grid cert.prices) cert.budget loads turns climbed =
    subst (λ (ps : List ℕ). IsBestCandidate d ps cert.budget loads turns climbed) prices
    (subst (λ (xs : List ℕ). IsBestCandidate d c.as_slice.result.now cert.budget xs turns climbed) from told.best) in
    let steps : AreClimbSteps d (most_of cert.budget) loads turns (steps_of climbed) =
    subst (λ (xs : List ℕ). AreClimbSteps d (most_of cert.budget) xs turns (steps_of climbed)) from told.steps in
    let new : Cert = with_prices d.grid cert climbed.budget climbed.prices.items climbed.bound in
    let is : record cert { bound = climbed.bound; budget = climbed.budget; prices = c.in_ok-open.open } ≡ new =
    ap (λ (ps : List ℕ). record cert { bound = climbed.bound; budget = climbed.budget; prices = ps }) (rw c.as_slice-3.ensures.value at c.in_ok-open.ensures) in
    let right : IsRightCert d over blocks cert (record cert { bound = climbed.bound; budget = climbed.budget; prices = c.in_ok-open.open }) =
    subst (λ (x : Cert). IsRightCert d over blocks cert x) (sym is) (right_cert d cert loads turns climbed best over blocks c.requires.cert c.requires.judged c.requires.turns.0 told.prices) in
    record {
      climbed = climbed;
      climbs = record { loads = loads; of_blocks = c.in_ok-loads.ensures; steps = steps; best = best };
      turn_is = refl;
      new_is = is;
      not_below = right.not_below;
      accepted = right.accepted;
      reads_back = right.reads_back;
      bounds = right.bounds;
    }
