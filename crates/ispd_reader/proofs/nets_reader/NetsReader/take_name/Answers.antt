use Rattle.std.proofs.Common.{refl}
use Rattle.std.proofs.lemmas.Result.{err_from_is_err_and}
use Rattle.ispd_reader.specs.declared.net_stage.NetStage.TheVariants as stages
use Rattle.design_tokens.specs.Numbers.{name_at}
use Rattle.ispd_reader.specs.NetsLeft.{nets_left_at_name, nets_left}
use Rattle.ispd_reader.proofs.NetTokens.{took, refused_there}
use Rattle.ispd_reader.proofs.NetFits.{done_at}
use Rattle.ispd_reader.proofs.nets_reader.NetsReader.take_name.Goals as goal

pub returns-in_err-name : goal.returns-in_err-name
returns-in_err-name c = λ grid fits.
    let p = err_from_is_err_and c.from_residual.result c.from_residual.ensures.1 in
    rw (p.1, p.2) (refused_there grid c.args.token.now stages.Name c.args.self.now _ name_at c.in_err-name.field-0.0 nets_left_at_name c.requires.stage (λ r. refl) (λ fault. refl) c.in_err-name.ensures)

pub returns : goal.returns
unfolding nets_left
returns c = λ grid fits. took grid c.args.token.now stages.Name c.args.self.now _ name_at c.in_ok-name.name.items nets_left_at_name c.requires.stage (λ r. refl) (λ after. rw c.of.ensures refl) c.in_ok-name.ensures
    (record { done = done_at grid c.args.self.now stages.Name c.requires.stage fits; present = tt })
