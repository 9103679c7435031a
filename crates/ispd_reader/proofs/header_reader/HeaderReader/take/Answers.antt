use Rattle.std.proofs.Common.{◌≡◌, ap, ◌∙◌, subst}
use Rattle.ispd_reader.specs.declared.header_stage.HeaderStage.{HeaderStage}
use Rattle.ispd_reader.specs.declared.header_stage.HeaderStage.TheVariants.{Size}
use Rattle.grid_graph.specs.declared.grid_parts.GridParts.{GridParts}
use Rattle.grid_graph.specs.Layouts.{layout_of_parts}
use Rattle.ispd_reader.specs.HeaderLeft.{header_left}
use Rattle.ispd_reader.specs.HeaderStages.{IsStage, stage_left}
use Rattle.ispd_reader.specs.Views.{header_of}
use Rattle.ispd_reader.proofs.HeaderSteps.{ends_refused_too}
use Rattle.ispd_reader.proofs.header_reader.HeaderReader.take.Goals as goal

pub returns-in_err-self-in-Size-clause-takes : goal.returns-in_err-self-in-Size-clause-takes
unfolding header_left
returns-in_err-self-in-Size-clause-takes c =
    let lists = c.args.self.now.lists in
    ends_refused_too c.args.token.now (λ (p : GridParts). header_of (layout_of_parts p)) c.from_residual.result c.in_err-self-in-Size.field-0.0 (stage_left (Size c.in-Size.stage) lists) (header_left c.args.self.now) (header_left c.args.self.now)
    (λ r. ap (λ (s : HeaderStage). stage_left s lists r) c.in-Size.is) c.from_residual.ensures.1 (c.in_err-self-in-Size.ensures.takes lists)

pub returns-in_ok-self-in-Size-clause-takes : goal.returns-in_ok-self-in-Size-clause-takes
unfolding header_left
returns-in_ok-self-in-Size-clause-takes c =
    let lists = c.args.self.now.lists in
    let is : c.args.self.now.stage ≡ Size c.in-Size.stage = c.in-Size.is in
    λ r next. ap (λ (s : HeaderStage). stage_left s lists r) is ∙ c.in_ok-self-in-Size.ensures.takes lists (subst (λ (s : HeaderStage). IsStage s lists) is c.args.self.now.limits) r next
