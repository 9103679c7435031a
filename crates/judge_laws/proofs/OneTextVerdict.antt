-- Three texts have one verdict, one measure, and meet whatever design, blocks and certificate they read as.
use Rattle.std.proofs.Common.{◌≡◌, ℕ, List, Option, None, Ok, sym, ◌∙◌}
use Rattle.cert_text.specs.declared.cert.Cert.{Cert}
use Rattle.grid_graph.specs.declared.design.Design.{Design}
use Rattle.grid_graph.specs.declared.ground.Ground.{Ground}
use Rattle.grid_graph.specs.Alike.{AreAlikeDesigns}
use Rattle.ispd_reader.proofs.Alike.{one_design}
use Rattle.route_text.specs.declared.block.Block.{Block}
use Rattle.tree_set.specs.declared.measure.Measure.{Measure}
use Rattle.edge_prices.specs.Budgets.{IsWithinLimits, most_of}
use Rattle.route_judge.specs.declared.reason.Reason.{Reason}
use Rattle.route_judge.specs.Judgements.{IsJudged}
use Rattle.route_judge.specs.Measured.{AreMeasured}
use Rattle.judge_laws.specs.Meeting.{Meet}
use Rattle.judge_laws.specs.TextVerdicts.{AreTextsOf, IsVerdictOn}
use Rattle.judge_laws.proofs.AlikeDesigns.{judged_alike, measured_once, meet_alike}
use Rattle.judge_laws.proofs.OneCert.{one_cert, cert_within}
use Rattle.judge_laws.proofs.OneVerdict.{verdict_once}
use Rattle.judge_laws.proofs.TrueClaims.{budget_positive}

-- two readings of three texts
module _ (design routes certificate : List ℕ) (d e : Design) (over others : List Ground) (blocks more : List Block) (cert again : Cert)
    (first : AreTextsOf design routes certificate d over blocks cert) (second : AreTextsOf design routes certificate e others more again) where
  alike : AreAlikeDesigns d e
  alike = one_design design d e first.named second.named

  same_blocks : blocks ≡ more
  same_blocks = let both : Ok blocks ≡ Ok more = sym first.routes_read ∙ second.routes_read in cc

  same_cert : cert ≡ again
  same_cert = one_cert certificate cert again first.certificate_read second.certificate_read

  within : IsWithinLimits again.budget
  within = cert_within certificate again second.certificate_read

  pub one_judgement : (one other : Option Reason) → IsJudged d over blocks cert one → IsJudged e others more again other → one ≡ other
  one_judgement one other judged too =
      verdict_once e others more again one other within
      ((judged_alike d e over others more again one alike first.grounds second.grounds).0 (rw (same_blocks, same_cert) at judged)) too

  pub one_measurement : (one other : Measure) (few much : ℕ) → AreMeasured d over blocks (most_of cert.budget) one few
      → AreMeasured e others more (most_of again.budget) other much → (one ≡ other) × (few ≡ much)
  one_measurement one other few much measured too =
      measured_once d e over others more (most_of again.budget) one other few much alike first.grounds second.grounds
      (budget_positive again.budget within) (rw (same_blocks, same_cert) at measured) too

  pub meet_too : Meet d over blocks cert → Meet e others more again
  meet_too meet = meet_alike d e over others more again alike first.grounds second.grounds (rw (same_blocks, same_cert) at meet)

pub one_text_verdict : (design routes certificate : List ℕ) (one other : Option Reason) → IsVerdictOn design routes certificate one → IsVerdictOn design routes certificate other → one ≡ other
one_text_verdict design routes certificate one other first second =
    one_judgement design routes certificate first.d second.d first.over second.over first.blocks second.blocks first.cert second.cert first.are second.are one other first.judged second.judged

pub met_accepted : (design routes certificate : List ℕ) (d : Design) (over : List Ground) (blocks : List Block) (cert : Cert) (reason : Option Reason)
    → AreTextsOf design routes certificate d over blocks cert → Meet d over blocks cert → IsVerdictOn design routes certificate reason → reason ≡ None
met_accepted design routes certificate d over blocks cert reason are meet verdict =
    one_text_verdict design routes certificate reason None verdict (record { d = d; over = over; blocks = blocks; cert = cert; are = are; judged = meet.accepted })
