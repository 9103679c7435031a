-- The verdict on routes and a certificate.
use Rattle.std.specs.Prelude.{◌≡◌, List, Option, Some, None, Result, Ok, Err}
use Rattle.cert_text.specs.declared.cert.Cert.{Cert}
use Rattle.dual_bound.specs.Bounds.{BoundsDesign}
use Rattle.dual_bound.specs.DesignBounds.{IsBoundOrNone}
use Rattle.grid_base.specs.declared.piece.Piece.{Piece}
use Rattle.grid_graph.specs.declared.design.Design.{Design}
use Rattle.grid_graph.specs.declared.ground.Ground.{Ground}
use Rattle.route_text.specs.declared.block.Block.{Block}
use Rattle.fractions.specs.declared.fraction.Fraction.{Fraction}
use Rattle.tree_set.specs.declared.measure.Measure.{Measure}
use Rattle.edge_prices.specs.Budgets.{most_of}
use Rattle.route_judge.specs.declared.reason.Reason.{Reason}
use Rattle.route_judge.specs.declared.stop.Stop.{Stop}
use Rattle.route_judge.specs.declared.stop.Stop.TheVariants.{Refused, NoMemory}
use Rattle.route_judge.specs.Counts.{listed_prices}
use Rattle.route_judge.specs.Measured.{IsMeasureOf}
use Rattle.route_judge.specs.NetSets.{AreSetsOf}
use Rattle.route_judge.specs.Objections.{Finds}
use Rattle.route_judge.specs.Orders.{AreRoutes, objections_but_bound, all_objections}

-- the measure of the sets that the blocks give the nets, with the certificate's budget
abbrev pub IsMeasureWith : Design → List Block → Cert → Measure → Type 0
IsMeasureWith d blocks cert m = (trees : List (List Piece)) × AreSetsOf d blocks trees × IsMeasureOf d (most_of cert.budget) trees m

-- the bound of the design at the certificate's prices and budget, and none where its denominator is 0
abbrev pub IsFound : Design → Cert → Option Fraction → Type 0
IsFound d cert found = IsBoundOrNone d (listed_prices d.grid cert.prices) cert.budget found

-- the reason of the first objection that applies, and none where none does: what routes measure is asked where the blocks are
-- routes, and what is found at the prices where nothing else can be objected
pub record IsJudged (d : Design) (over : List Ground) (blocks : List Block) (cert : Cert) (reason : Option Reason) : Type 0 where
  pub measure : Measure
  pub found : Option Fraction
  pub is_measure : AreRoutes d blocks → IsMeasureWith d blocks cert measure
  pub is_found : Finds d (objections_but_bound d over blocks cert measure) None → IsFound d cert found
  pub first : Finds d (all_objections d over blocks cert measure found) reason

-- why a step that goes through all of them stopped; want of memory has no cause
abbrev pub IsJudgedFor : Design → List Ground → List Block → Cert → Stop → Type 0
IsJudgedFor d over blocks cert (Refused reason) = IsJudged d over blocks cert (Some reason)
IsJudgedFor d over blocks cert NoMemory = Unit {0}

-- and what it answers
abbrev pub IsJudgedAs : {X : Type 0} → Design → List Ground → List Block → Cert → Result X Stop → Type 0
IsJudgedAs d over blocks cert (Ok x) = IsJudged d over blocks cert None
IsJudgedAs d over blocks cert (Err stop) = IsJudgedFor d over blocks cert stop

-- what the certificate states is a bound of the design, where it states one
abbrev pub StatesBound : Design → Cert → Type 0
StatesBound d cert = (f : Fraction) → cert.bound ≡ Some f → BoundsDesign d (most_of cert.budget) f.num f.den
