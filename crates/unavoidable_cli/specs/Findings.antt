-- What is found of a design, of blocks and of a certificate that the judge accepts. Where none is given, that of the routes alone
-- stands for it.
use Rattle.std.specs.Prelude.{◌≡◌, ◌≤◌, ◌<◌, ◌⊎◌, ℕ, List, [], Option, None, IfSome, IsSomeAnd}
use Rattle.cert_text.specs.declared.cert.Cert.{Cert}
use Rattle.cert_text.specs.Certs.{IsCertOf}
use Rattle.cert_text.specs.CertText.{cert_text}
use Rattle.dual_bound.specs.Bounds.{BoundsDesign}
use Rattle.dual_bound.specs.DesignBounds.{IsBoundOrNone}
use Rattle.dual_bound.specs.LeastOverflow.{ShowsOverflow}
use Rattle.dual_bound.specs.Prices.{free_budget}
use Rattle.edge_prices.specs.Budgets.{most_of}
use Rattle.edge_prices.specs.Weights.{AreEdgePrices}
use Rattle.grid_base.specs.declared.piece.Piece.{Piece}
use Rattle.grid_graph.specs.declared.design.Design.{Design}
use Rattle.grid_graph.specs.declared.ground.Ground.{Ground}
use Rattle.judge_laws.specs.OpenPrices.{with_prices}
use Rattle.overflow_bounds.specs.Shown.{IsNoneOrShownByWires}
use Rattle.route_judge.specs.Bounds.{IsAtMostFound}
use Rattle.route_judge.specs.Judgements.{IsJudged, StatesBound}
use Rattle.route_judge.specs.NetSets.{AreSetsOf}
use Rattle.route_text.specs.declared.block.Block.{Block}
use Rattle.fractions.specs.declared.fraction.Fraction.{Fraction}
use Rattle.tree_set.specs.Loads.{load}
use Rattle.tree_set.specs.Measures.{overflow}
use Rattle.tree_set.specs.Routings.{IsRouting}
use Rattle.unavoidable_cli.specs.declared.finding.Finding.{Finding}
use Rattle.unavoidable_cli.specs.declared.priced_edge.PricedEdge.{PricedEdge}
use Rattle.unavoidable_cli.specs.PricedEdges.{priced_edges}

-- ---- the new certificate

-- there is a bound, and it isn't at most the other, by cross products; none is below every fraction
abbrev pub IsAbove : Option Fraction → Option Fraction → Type 0
IsAbove bound other = IsSomeAnd bound (λ f. ¬ IsAtMostFound f other)

-- a price list prices these edges, and shows so much overflow
pub record IsPricing (d : Design) (prices : List ℕ) (edges : List PricedEdge) (shown : ℕ) : Type 0 where
  pub are_prices : AreEdgePrices d.grid prices
  pub edges_are : edges ≡ priced_edges d.grid prices
  pub shows : ShowsOverflow d prices shown

-- the new certificate has a greater bound than the old one, which the prices of these edges show: it is the bound of the design
-- at a price list, where a wirelength that is to be kept costs nothing, and but for bound, prices and the price of the wirelength
-- the two are equal. So the bound holds whatever the budget is, and without one, where it is that of the open edges alone. The
-- overflow that these prices show is at most the one that is found.
pub record IsBetter (d : Design) (old new : Cert) (edges : List PricedEdge) (least : ℕ) : Type 0 where
  pub prices : List ℕ
  pub is_new : new ≡ with_prices d.grid old (free_budget (most_of old.budget)) prices new.bound
  pub is_bound : IsBoundOrNone d prices new.budget new.bound
  pub above : IsAbove new.bound old.bound
  pub any_budget : IfSome new.bound (λ f. (most : Option ℕ) → BoundsDesign d most f.num f.den)
  pub pricing : (shown : ℕ) × IsPricing d prices edges shown × (shown ≤ least)

-- or it is the old one, and no edges are named
abbrev pub IsSameOrBetter : Design → Cert → Cert → List PricedEdge → ℕ → Type 0
IsSameOrBetter d old new edges least = (new ≡ old) × (edges ≡ []) ⊎ IsBetter d old new edges least

-- ---- the least overflow

-- a price list shows so much overflow: by the net bounds, or by numbers that are at most what the routes of each net cost, and by
-- whole units of what nets use
abbrev pub ShowsLeast : Design → List ℕ → ℕ → Type 0
ShowsLeast d prices least = ShowsOverflow d prices least ⊎ IsNoneOrShownByWires d prices least

-- and it shows no more by the net bounds
abbrev pub ShowsNoMoreByBounds : Design → List ℕ → ℕ → Type 0
ShowsNoMoreByBounds d prices least = (shown : ℕ) × ShowsOverflow d prices shown × (shown ≤ least)

-- a price list prices these edges, and shows so much overflow in one of these ways, and no more by the net bounds
pub record IsCut (d : Design) (prices : List ℕ) (edges : List PricedEdge) (least : ℕ) : Type 0 where
  pub are_prices : AreEdgePrices d.grid prices
  pub edges_are : edges ≡ priced_edges d.grid prices
  pub shows : ShowsLeast d prices least
  pub no_more : ShowsNoMoreByBounds d prices least

-- a price list that prices these edges shows so much overflow, which is some; or none is shown, and no edges are named
abbrev pub IsNoneOrShown : Design → ℕ → List PricedEdge → Type 0
IsNoneOrShown d least edges = (least ≡ 0) × (edges ≡ []) ⊎ (0 < least) × ((prices : List ℕ) × IsCut d prices edges least)

-- no routing of whole routes, each on its net's ground, has less overflow; routes that go beyond their grounds may have less
abbrev pub IsUnavoidable : Design → ℕ → Type 0
IsUnavoidable d least = (trees : List (List Piece)) → IsRouting d.grid d.nets trees → least ≤ overflow d.grid (load d.grid d.nets trees)

-- the overflow of the sets that the blocks give the nets
abbrev pub IsOverflowOfBlocks : Design → List Block → ℕ → Type 0
IsOverflowOfBlocks d blocks found =
    (trees : List (List Piece)) × AreSetsOf d blocks trees × (found ≡ overflow d.grid (load d.grid d.nets trees))

-- ---- all of it

-- the finding is true of its design, of blocks and of a certificate
pub record IsFinding (over : List Ground) (blocks : List Block) (cert : Cert) (f : Finding) : Type 0 where
  -- the new certificate is the old one, or one with a greater bound
  pub new : IsSameOrBetter f.design cert f.new f.bottleneck.items f.overflow
  -- either way the judge accepts it, its text reads back, and every mixture of routings uses some resource at its bound or more
  pub accepted : IsJudged f.design over blocks f.new None
  pub reads_back : IsCertOf (cert_text f.new) f.new
  pub bounds : StatesBound f.design f.new
  -- a price list shows the overflow
  pub shown : IsNoneOrShown f.design f.overflow f.cut.items
  -- no routing that keeps to its grounds has less
  pub unavoidable : IsUnavoidable f.design f.overflow
  -- and the routes have so much
  pub of_routes : IsOverflowOfBlocks f.design blocks f.routes
