use Rattle.std.proofs.Common.{ap, ◌∙◌}
use Rattle.text_scan.specs.Reading.{past_token}
use Rattle.ispd_reader.specs.declared.header_stage.HeaderStage.{HeaderStage}
use Rattle.ispd_reader.specs.HeaderLeft.{header_left}
use Rattle.ispd_reader.specs.HeaderStages.{stage_left}
use Rattle.ispd_reader.specs.HeaderTails.{values_left}
use Rattle.ispd_reader.specs.LayersRead.{header_with}
use Rattle.ispd_reader.proofs.HeaderSteps.{takes_refused_too}
use Rattle.ispd_reader.proofs.header_reader.HeaderReader.take_value.Goals as goal

pub returns-in_err-take : goal.returns-in_err-take
unfolding header_left
returns-in_err-take c =
    takes_refused_too c.args.token.now c.from_residual.result c.in_err-take.field-0.0 (values_left c.args.list (header_with c.args.size c.args.self.now.lists) c.args.done) (header_left c.args.self.now) _
    (λ r. ap (λ (s : HeaderStage). stage_left s c.args.self.now.lists r) c.requires) c.from_residual.ensures.1 c.in_err-take.ensures.takes

pub returns : goal.returns
unfolding header_left
returns c = λ r next.
    ap (λ (s : HeaderStage). stage_left s c.args.self.now.lists r) c.requires
    ∙ c.in_ok-take.ensures.takes r next
    ∙ c.behind_values-self.ensures.goes_on c.take.new.self c.in_ok-take.ensures.more (past_token r)
