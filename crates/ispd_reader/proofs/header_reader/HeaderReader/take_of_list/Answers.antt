use Rattle.std.proofs.Common.{◌≡◌, ap, ◌∙◌, subst}
use Rattle.ispd_reader.specs.declared.header_stage.HeaderStage.{HeaderStage}
use Rattle.ispd_reader.specs.declared.header_stage.HeaderStage.TheVariants.{List}
use Rattle.ispd_reader.specs.declared.header_stage.ListStage.{ListStage}
use Rattle.ispd_reader.specs.declared.header_stage.ListStage.TheVariants.{FirstWord, SecondWord}
use Rattle.ispd_reader.specs.HeaderLeft.{header_left}
use Rattle.ispd_reader.specs.HeaderStages.{IsStage, stage_left}
use Rattle.ispd_reader.proofs.HeaderSteps.{takes_refused_too}
use Rattle.ispd_reader.proofs.header_reader.HeaderReader.take_of_list.Goals as goal

pub returns-in_err-self-in-FirstWord : goal.returns-in_err-self-in-FirstWord
unfolding header_left
returns-in_err-self-in-FirstWord c =
    let lists = c.args.self.now.lists in
    let is : c.args.self.now.stage ≡ List c.args.size c.args.list FirstWord = c.requires ∙ ap (λ (s : ListStage). List c.args.size c.args.list s) c.in-FirstWord.is in
    takes_refused_too c.args.token.now c.from_residual.result c.in_err-self-in-FirstWord.field-0.0 (stage_left (List c.args.size c.args.list FirstWord) lists) (header_left c.args.self.now) (header_left c.args.self.now)
    (λ r. ap (λ (s : HeaderStage). stage_left s lists r) is) c.from_residual.ensures.1 (c.in_err-self-in-FirstWord.ensures.takes lists)

pub returns-in_ok-self-in-FirstWord : goal.returns-in_ok-self-in-FirstWord
unfolding header_left
returns-in_ok-self-in-FirstWord c =
    let lists = c.args.self.now.lists in
    let is : c.args.self.now.stage ≡ List c.args.size c.args.list FirstWord = c.requires ∙ ap (λ (s : ListStage). List c.args.size c.args.list s) c.in-FirstWord.is in
    λ r next. ap (λ (s : HeaderStage). stage_left s lists r) is ∙ c.in_ok-self-in-FirstWord.ensures.takes lists (subst (λ (s : HeaderStage). IsStage s lists) is c.args.self.now.limits) r next

pub returns-in_err-self-in-SecondWord : goal.returns-in_err-self-in-SecondWord
unfolding header_left
returns-in_err-self-in-SecondWord c =
    let lists = c.args.self.now.lists in
    let is : c.args.self.now.stage ≡ List c.args.size c.args.list SecondWord = c.requires ∙ ap (λ (s : ListStage). List c.args.size c.args.list s) c.in-SecondWord.is in
    takes_refused_too c.args.token.now c.from_residual-in_err-self-in-SecondWord.result c.in_err-self-in-SecondWord.field-0.0 (stage_left (List c.args.size c.args.list SecondWord) lists) (header_left c.args.self.now) (header_left c.args.self.now)
    (λ r. ap (λ (s : HeaderStage). stage_left s lists r) is) c.from_residual-in_err-self-in-SecondWord.ensures.1 (c.in_err-self-in-SecondWord.ensures.takes lists)

pub returns-in_ok-self-in-SecondWord : goal.returns-in_ok-self-in-SecondWord
unfolding header_left
returns-in_ok-self-in-SecondWord c =
    let lists = c.args.self.now.lists in
    let is : c.args.self.now.stage ≡ List c.args.size c.args.list SecondWord = c.requires ∙ ap (λ (s : ListStage). List c.args.size c.args.list s) c.in-SecondWord.is in
    λ r next. ap (λ (s : HeaderStage). stage_left s lists r) is ∙ c.in_ok-self-in-SecondWord.ensures.takes lists (subst (λ (s : HeaderStage). IsStage s lists) is c.args.self.now.limits) r next

pub take_value-requires : goal.take_value-requires
take_value-requires c = c.requires ∙ ap (λ (s : ListStage). List c.args.size c.args.list s) c.in-Value.is
