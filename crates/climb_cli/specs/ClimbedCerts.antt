-- What a climb comes to: another certificate of the same routes.
use Rattle.std.specs.Prelude.{◌≡◌, ℕ, List, None}
use Rattle.bound_climb.specs.declared.climbed.Climbed.{Climbed}
use Rattle.bound_climb.specs.Climbs.{AreClimbSteps, IsBestCandidate, IsGreaterBound, steps_of}
use Rattle.cert_text.specs.declared.cert.Cert.{Cert}
use Rattle.cert_text.specs.Certs.{IsCertOf}
use Rattle.cert_text.specs.CertText.{cert_text}
use Rattle.climb_cli.specs.declared.climbed_cert.ClimbedCert.{ClimbedCert}
use Rattle.edge_prices.specs.Budgets.{most_of}
use Rattle.grid_base.specs.declared.piece.Piece.{Piece}
use Rattle.grid_graph.specs.declared.design.Design.{Design}
use Rattle.grid_graph.specs.declared.ground.Ground.{Ground}
use Rattle.judge_laws.specs.OpenPrices.{with_prices}
use Rattle.route_judge.specs.Counts.{listed_prices}
use Rattle.route_judge.specs.Judgements.{IsJudged, StatesBound}
use Rattle.route_judge.specs.NetSets.{AreSetsOf}
use Rattle.route_text.specs.declared.block.Block.{Block}
use Rattle.tree_set.specs.Loads.{load_list}
use Rattle.tree_set.specs.Measures.{wirelength}

-- the wirelength of the sets that the blocks give the nets
pub record IsWirelengthOfBlocks (d : Design) (blocks : List Block) (found : ℕ) : Type 0 where
  pub trees : List (List Piece)
  pub sets : AreSetsOf d blocks trees
  pub is_wirelength : found ≡ wirelength trees

-- the loads of the sets that the blocks give the nets, with the wirelength's
pub record AreLoadsOfBlocks (d : Design) (blocks : List Block) (loads : List ℕ) : Type 0 where
  pub trees : List (List Piece)
  pub sets : AreSetsOf d blocks trees
  pub loads_are : loads ≡ load_list d.grid d.nets trees

-- a climb of so many turns from the loads of the blocks, and from the prices and the budget of the certificate
pub record IsClimbFrom (d : Design) (blocks : List Block) (cert : Cert) (turns : ℕ) (climbed : Climbed) : Type 0 where
  pub loads : List ℕ
  pub of_blocks : AreLoadsOfBlocks d blocks loads
  pub steps : AreClimbSteps d (most_of cert.budget) loads turns (steps_of climbed)
  pub best : IsBestCandidate d (listed_prices d.grid cert.prices) cert.budget loads turns climbed

-- the new certificate is the old one with the bound, the prices and the price of the wirelength that such a climb answers
pub record IsClimbedCert (d : Design) (over : List Ground) (blocks : List Block) (cert : Cert) (turns : ℕ) (new : ClimbedCert) : Type 0 where
  pub climbed : Climbed
  pub climbs : IsClimbFrom d blocks cert turns climbed
  pub turn_is : new.turn ≡ climbed.turn
  pub new_is : new.cert ≡ with_prices d.grid cert climbed.budget climbed.prices.items climbed.bound
  -- its bound is not below the old one
  pub not_below : ¬ IsGreaterBound cert.bound new.cert.bound
  -- the judge accepts it, its text reads back, and every mixture of routings uses some resource at its bound or more
  pub accepted : IsJudged d over blocks new.cert None
  pub reads_back : IsCertOf (cert_text new.cert) new.cert
  pub bounds : StatesBound d new.cert
