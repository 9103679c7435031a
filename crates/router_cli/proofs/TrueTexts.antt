-- What a run of the router has written meets its design.
use Rattle.std.proofs.Common.{◌≡◌, ℕ, ◌≤◌, List, [], ◌∷◌, length, take, All, Option, Some, None, refl, sym, ◌∙◌, ap, subst}
use Rattle.std.specs.Prelude.{IsSome}
use Rattle.std.specs.List.{AllZip}
use Rattle.std.proofs.lemmas.List.Elements.{All-weaker}
use Rattle.std.proofs.lemmas.Option.{same_Some}
use Rattle.cert_text.specs.declared.cert.Cert.{Cert}
use Rattle.cert_text.specs.CertText.{cert_text}
use Rattle.cert_text.proofs.ReadBackCerts.{cert_reads_back}
use Rattle.dual_bound.specs.DesignBounds.{IsBoundOrNone}
use Rattle.edge_prices.specs.Limits.{IsBudget, max_price, MayBeBudget}
use Rattle.edge_prices.specs.Weights.{ArePrices}
use Rattle.edge_prices.proofs.PriceVectors.{price_vector-ArePrices}
use Rattle.grid_base.specs.declared.piece.Piece.{Piece}
use Rattle.grid_graph.specs.declared.design.Design.{Design}
use Rattle.grid_graph.specs.declared.grid.Grid.{Grid}
use Rattle.grid_graph.specs.declared.ground.Ground.{Ground}
use Rattle.grid_graph.specs.declared.ground.Ground.TheVariants.{Open, WithChoked}
use Rattle.grid_graph.specs.declared.net_spec.NetSpec.{NetSpec}
use Rattle.grid_graph.specs.Borders.{HasBordersInRange}
use Rattle.grid_graph.specs.Grids.{Allows, edge_numbers}
use Rattle.grid_graph.specs.Grounds.{AreGrounds}
use Rattle.grid_graph.proofs.Grounds.{Allows-choked}
use Rattle.ispd_reader.specs.Designs.{IsDesignOfText}
use Rattle.routing_stages.specs.declared.settings.Settings.{Settings}
use Rattle.routing_stages.specs.Phases.{phases_loads}
use Rattle.routing_stages.specs.Settings.{AreSettings}
use Rattle.route_text.specs.RouteText.{routes_text}
use Rattle.route_text.specs.Written.{written_blocks}
use Rattle.route_text.proofs.ReadBackBlocks.{text_reads_back}
use Rattle.edge_prices.specs.declared.budget.Budget.{Budget}
use Rattle.edge_prices.specs.Budgets.{IsWithinLimits, most_of}
use Rattle.tree_set.specs.Loads.{load}
use Rattle.tree_set.specs.Measures.{wirelength, IsPeakWith}
use Rattle.tree_set.specs.Routings.{IsRoute, KeepsTo}
use Rattle.route_judge.specs.Bounds.{HasResource}
use Rattle.route_judge.specs.Counts.{forced_count, listed_prices}
use Rattle.route_judge.specs.NetSets.{IsJoining}
use Rattle.judge_laws.specs.Meeting.{ClaimsTruly}
use Rattle.judge_laws.proofs.CertLimits.{true_cert_within}
use Rattle.judge_laws.proofs.OneBound.{same_grounds}
use Rattle.judge_laws.proofs.TrueClaims.{true_claims_meet}
use Rattle.judge_laws.proofs.WrittenBlocks.{AreRoutedSets, written_are_routes, written_sets}
use Rattle.judge_laws.proofs.WrittenRanges.{written_can_be_judged}
use Rattle.router_cli.specs.Certified.{IsCertified, priced_budget}
use Rattle.router_cli.specs.Headline.{IsTrueOf}
use Rattle.router_cli.specs.TextsMeet.{TextsMeet}
use Rattle.judge_laws.proofs.OpenPrices.{listed_back, listed_count, listed_within}
use Rattle.router_cli.proofs.ReadBack.{nets_named}
use Rattle.router_cli.proofs.RisingRuns.{run_rises}
use Rattle.router_cli.proofs.Routed.{routes_are_pieces}

-- ---- a routing joins the nets without walls

no_wall : (g : Grid) (over : Ground) (tree : List Piece) → KeepsTo g over tree → KeepsTo g WithChoked tree
no_wall g Open tree keeps = All-weaker (Allows g Open) (Allows g WithChoked) (Allows-choked g) tree keeps
no_wall g WithChoked tree keeps = keeps

routing_joins : (g : Grid) (nets : List NetSpec) (trees : List (List Piece)) → AllZip (IsRoute g) nets trees → AllZip (IsJoining g) nets trees
routing_joins g [] [] routing = tt
routing_joins g (n ∷ nets) (tree ∷ trees) routing =
    (record { joined = routing.0.joined; no_wall = no_wall g routing.0.over tree routing.0.inside }, routing_joins g nets trees routing.1)
routing_joins g [] (tree ∷ trees) routing = absurd routing
routing_joins g (n ∷ nets) [] routing = absurd routing

-- ---- what the certificate claims

most_is : (g : Grid) (prices : List ℕ) (budget : Option ℕ) → most_of (priced_budget g prices budget) ≡ budget
most_is g prices None = refl
most_is g prices (Some most) = refl

budget_within : (g : Grid) (prices : List ℕ) (budget : Option ℕ) → IsBudget budget → ArePrices g prices → IsWithinLimits (priced_budget g prices budget)
budget_within g prices None fits are = λ b same. absurd (cc same)
budget_within g prices (Some most) fits are = λ b same.
    subst (λ (x : Budget). MayBeBudget x.most × (x.price ≤ max_price)) (same_Some _ b same) (fits most refl, are.within (edge_numbers g))

claims_truly : (d : Design) (budget : Option ℕ) (over : List Ground) (trees : List (List Piece)) (prices : List ℕ) (cert : Cert) → AreGrounds d.grid d.nets over
    → IsBudget budget → ArePrices d.grid prices → IsCertified d budget trees prices cert → (HasResource d.grid budget → IsSome cert.bound) → ClaimsTruly d over trees cert
claims_truly d budget over trees prices cert grounds fits are certified some =
    let most : most_of cert.budget ≡ budget = ap most_of certified.budget_is ∙ most_is d.grid prices budget in
    let listed : take (edge_numbers d.grid) prices ≡ listed_prices d.grid cert.prices = sym (listed_back d.grid prices are) ∙ ap (listed_prices d.grid) (sym certified.prices_are) in
    record {
      nets = certified.nets;
      forced = certified.forced ∙ ap forced_count (same_grounds d.grid d.nets certified.grounds over certified.are_grounds grounds);
      prices = ap length certified.prices_are ∙ listed_count d.grid prices;
      overflow_is = certified.overflow_is;
      wirelength_is = certified.wirelength_is;
      peak = subst (λ b. IsPeakWith d.grid (load d.grid d.nets trees) (wirelength trees) b cert.peak) (sym most) certified.peak;
      budget = subst IsWithinLimits (sym certified.budget_is) (budget_within d.grid prices budget fits are);
      bound = subst (λ ps. IsBoundOrNone d ps cert.budget cert.bound) listed certified.bound;
      some = λ resource. some (subst (HasResource d.grid) most resource);
    }

-- ---- the texts of a run

pub texts_meet : (text : List ℕ) (d : Design) (s : Settings) (over : List Ground) (trees : List (List Piece)) (prices : List ℕ) (rounded rounds : ℕ) (cert : Cert)
    → IsDesignOfText text d → HasBordersInRange d.grid → AreSettings s → AreGrounds d.grid d.nets over → IsTrueOf d s trees prices rounded rounds cert
    → TextsMeet d over (routes_text d.grid d.nets trees) (cert_text cert) cert
texts_meet text d s over trees prices rounded rounds cert named borders settings grounds true_of =
    let sets : AreRoutedSets d trees = record { rising = run_rises d s trees prices rounded rounds true_of.run; joining = routing_joins d.grid d.nets trees true_of.routing } in
    let loads = phases_loads d.grid d.nets true_of.run.phases in
    let are : ArePrices d.grid prices = subst (ArePrices d.grid) (sym true_of.run.prices_are) (price_vector-ArePrices d.grid loads 1 s.budget) in
    let claims = claims_truly d s.budget over trees prices cert grounds settings.budget are true_of.certified (λ resource. true_of.some resource.0 resource.1) in
    let small : All (λ (price : ℕ). price ≤ max_price) cert.prices = subst (All (λ (price : ℕ). price ≤ max_price)) (sym true_of.certified.prices_are) (listed_within d.grid prices are) in
    record {
      blocks = written_blocks d.grid d.nets trees;
      routes_read = text_reads_back d.grid d.nets trees borders (nets_named text d named) (routes_are_pieces d.grid d.nets trees true_of.routing);
      judgeable = written_can_be_judged d trees borders sets;
      certificate_reads = cert_reads_back cert (true_cert_within d over trees cert grounds sets small claims);
      meet = true_claims_meet d over trees (written_blocks d.grid d.nets trees) cert (written_are_routes d trees sets) (written_sets d trees sets) claims;
    }
