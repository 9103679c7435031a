-- Verdicts on texts: of a design, of routes and of a certificate.
use Rattle.std.specs.Prelude.{ℕ, ◌≡◌, List, Option, Ok}
use Rattle.cert_text.specs.declared.cert.Cert.{Cert}
use Rattle.cert_text.specs.Certs.{IsCertOf}
use Rattle.grid_graph.specs.declared.design.Design.{Design}
use Rattle.grid_graph.specs.declared.ground.Ground.{Ground}
use Rattle.grid_graph.specs.Grounds.{AreGrounds}
use Rattle.ispd_reader.specs.Designs.{IsDesignOfText}
use Rattle.route_text.specs.declared.block.Block.{Block}
use Rattle.route_text.specs.Blocks.{blocks_of}
use Rattle.route_judge.specs.declared.reason.Reason.{Reason}
use Rattle.route_judge.specs.Judgements.{IsJudged}

-- the three texts read as a design with its nets' grounds, as blocks and as a certificate
pub record AreTextsOf (design routes certificate : List ℕ) (d : Design) (over : List Ground) (blocks : List Block) (cert : Cert) : Type 0 where
  pub named : IsDesignOfText design d
  pub grounds : AreGrounds d.grid d.nets over
  pub routes_read : blocks_of routes ≡ Ok blocks
  pub certificate_read : IsCertOf certificate cert

-- a judgement of what the three texts read as gives this reason, or none
pub record IsVerdictOn (design routes certificate : List ℕ) (reason : Option Reason) : Type 0 where
  pub d : Design
  pub over : List Ground
  pub blocks : List Block
  pub cert : Cert
  pub are : AreTextsOf design routes certificate d over blocks cert
  pub judged : IsJudged d over blocks cert reason
