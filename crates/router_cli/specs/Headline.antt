-- The headline, in one page: what a run of `route` that ends with status 0 has written and reported. Every other file of this
-- folder, of `judge_cli` and of `command_runs` says when a run ends so, and what it leaves where it doesn't.
--
-- Where the words lead: `IsDesignOfText` of `ispd_reader` is the design that bytes name, `IsRouting` of `tree_set` says that each
-- net's set joins its terminals in its ground, `IsRouterRun` beside this file is a run of phases, picks and rounds of repair,
-- `IsCertified` what is measured of the sets and the bound at the printed prices, `BoundsDesign` of `dual_bound` that every
-- mixture of routings uses some resource at least so much, and `routes_text`, `cert_text` and `report_text` are the three texts.
use Rattle.std.specs.Prelude.{◌≡◌, ℕ, false, List, [], ◌∷◌, IfSome, IsSome}
use Rattle.grid_base.specs.declared.piece.Piece.{Piece}
use Rattle.gr_desk.specs.Told.{Told}
use Rattle.grid_graph.specs.declared.design.Design.{Design}
use Rattle.ispd_reader.specs.Designs.{IsDesignOfText}
use Rattle.routing_stages.specs.declared.settings.Settings.{Settings}
use Rattle.cert_text.specs.declared.cert.Cert.{Cert}
use Rattle.cert_text.specs.CertText.{cert_text}
use Rattle.dual_bound.specs.Bounds.{BoundsDesign, IsResource}
use Rattle.route_text.specs.RouteText.{routes_text}
use Rattle.tree_set.specs.Routings.{IsRouting}
use Rattle.command_runs.specs.CommandRun.{RunOutcome}
use Rattle.command_runs.specs.Sources.{HasBytes}
use Rattle.router_cli.specs.declared.routed_design.RoutedDesign.{RoutedDesign}
use Rattle.router_cli.specs.Certified.{IsCertified}
use Rattle.router_cli.specs.ReportLines.{report_text}
use Rattle.router_cli.specs.RouterRuns.{IsRouterRun}

-- the sets are routes of all nets, and what the certificate says of them is true, and so are the overflow before repair and the
-- number of its rounds
pub record IsTrueOf (d : Design) (s : Settings) (trees : List (List Piece)) (prices : List ℕ) (rounded rounds : ℕ) (c : Cert) : Type 0 where
  -- every route joins its net's terminals inside the grid
  pub routing : IsRouting d.grid d.nets trees
  -- the routes and the prices are those of one run of the router with these settings, and so are the two numbers
  pub run : IsRouterRun d s trees prices rounded rounds
  -- the overflow, the wirelength and the peak are those of these very sets, and the bound is the one at the printed prices
  pub certified : IsCertified d s.budget trees prices c
  -- the bound is at most the greatest load/capacity of every routing, whole or mixed
  pub bounds : IfSome c.bound (λ f. BoundsDesign d s.budget f.num f.den)
  -- where there is a resource, an open edge or a budget, a bound is stated
  pub some : (r : ℕ) → IsResource d.grid s.budget r → IsSome c.bound

-- what the certificate and the two numbers of a routed design say is true
abbrev pub IsRoutedDesign : Settings → RoutedDesign → Type 0
IsRoutedDesign s r = IsTrueOf r.design s r.trees r.prices.items r.rounded r.rounds r.cert

-- what it is written and reported as: the file of the routes, that of the certificate, and the report
abbrev pub routed_outcome : RoutedDesign → RunOutcome
routed_outcome r = record {
  texts = routes_text r.design.grid r.design.nets r.trees ∷ cert_text r.cert ∷ [];
  report = report_text r.rounded r.rounds r.cert;
  objects = false;
}

-- the texts are those of the design that the bytes of the file are the text of
pub record IsRouteOutcome (input : List ℕ) (s : Settings) (told : Told) (outcome : RunOutcome) : Type 0 where
  pub routed : RoutedDesign
  pub named : HasBytes told.files input (λ bytes. IsDesignOfText bytes routed.design)
  pub is_true : IsRoutedDesign s routed
  pub outcome_is : outcome ≡ routed_outcome routed
