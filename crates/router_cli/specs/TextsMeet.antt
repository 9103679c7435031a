-- What a judge has to say of the texts of a run.
use Rattle.std.specs.Prelude.{ℕ, ◌≡◌, List, Ok}
use Rattle.cert_text.specs.declared.cert.Cert.{Cert}
use Rattle.cert_text.specs.Certs.{IsCertOf}
use Rattle.grid_graph.specs.declared.design.Design.{Design}
use Rattle.grid_graph.specs.declared.ground.Ground.{Ground}
use Rattle.judge_laws.specs.Meeting.{Meet}
use Rattle.route_judge.specs.Limits.{AreBlocks}
use Rattle.route_text.specs.declared.block.Block.{Block}
use Rattle.route_text.specs.Blocks.{blocks_of}

-- the two texts read as blocks and a certificate that meet the design, whose nets have these grounds
pub record TextsMeet (d : Design) (over : List Ground) (routes certificate : List ℕ) (cert : Cert) : Type 0 where
  pub blocks : List Block
  pub routes_read : blocks_of routes ≡ Ok blocks
  pub judgeable : AreBlocks blocks
  pub certificate_reads : IsCertOf certificate cert
  pub meet : Meet d over blocks cert
