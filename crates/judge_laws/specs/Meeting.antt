-- Routes and a certificate that meet their design; and what makes the claims of a certificate true.
use Rattle.std.specs.Prelude.{◌≡◌, List, length, Option, None, IsSome}
use Rattle.cert_text.specs.declared.cert.Cert.{Cert}
use Rattle.dual_bound.specs.DesignBounds.{IsBoundOrNone}
use Rattle.grid_base.specs.declared.piece.Piece.{Piece}
use Rattle.grid_graph.specs.declared.design.Design.{Design}
use Rattle.grid_graph.specs.declared.ground.Ground.{Ground}
use Rattle.route_text.specs.declared.block.Block.{Block}
use Rattle.tree_set.specs.declared.measure.Measure.{Measure}
use Rattle.edge_prices.specs.Budgets.{IsWithinLimits, most_of}
use Rattle.tree_set.specs.Loads.{load}
use Rattle.tree_set.specs.Measures.{overflow, wirelength, IsPeakWith}
use Rattle.route_judge.specs.declared.reason.Reason.{Reason}
use Rattle.route_judge.specs.Bounds.{HasResource}
use Rattle.route_judge.specs.Counts.{forced_count, open_count, listed_prices}
use Rattle.route_judge.specs.Judgements.{IsJudged, IsMeasureWith}
use Rattle.route_judge.specs.Objections.{Differ}

-- the certificate states this measure
pub record StatesMeasure (cert : Cert) (m : Measure) : Type 0 where
  pub overflow_is : cert.overflow ≡ m.overflow
  pub wirelength_is : cert.wirelength ≡ m.wirelength
  pub peak_is : ¬ Differ cert.peak m.peak

-- the blocks and the certificate meet the design: no objection to them applies
pub record Meet (d : Design) (over : List Ground) (blocks : List Block) (cert : Cert) : Type 0 where
  -- the judgement gives no reason against them
  pub accepted : IsJudged d over blocks cert None
  -- and no judgement gives one
  pub only : (reason : Option Reason) → IsJudged d over blocks cert reason → reason ≡ None
  -- what the routes measure is what the certificate states
  pub measured : (m : Measure) → IsMeasureWith d blocks cert m → StatesMeasure cert m

-- what a certificate claims is true of a design and of sets, one per net
pub record ClaimsTruly (d : Design) (over : List Ground) (trees : List (List Piece)) (cert : Cert) : Type 0 where
  pub nets : cert.nets ≡ length d.nets
  pub forced : cert.forced ≡ forced_count over
  pub prices : length cert.prices ≡ open_count d.grid
  pub overflow_is : cert.overflow ≡ overflow d.grid (load d.grid d.nets trees)
  pub wirelength_is : cert.wirelength ≡ wirelength trees
  pub peak : IsPeakWith d.grid (load d.grid d.nets trees) (wirelength trees) (most_of cert.budget) cert.peak
  pub budget : IsWithinLimits cert.budget
  -- the bound is that at the prices that are listed
  pub bound : IsBoundOrNone d (listed_prices d.grid cert.prices) cert.budget cert.bound
  -- and one is stated where there is a resource
  pub some : HasResource d.grid (most_of cert.budget) → IsSome cert.bound
