use Rattle.std.proofs.Common.{refl}
use Rattle.std.proofs.lemmas.Result.{err_from_is_err_and}
use Rattle.ispd_reader.specs.declared.net_stage.NetStage.TheVariants as stages
use Rattle.design_tokens.specs.declared.wanted.Wanted.TheVariants as wanted
use Rattle.design_tokens.specs.Numbers.{word_at}
use Rattle.ispd_reader.specs.NetsLeft.{nets_left_at_net, nets_left}
use Rattle.ispd_reader.proofs.NetTokens.{took, refused_there}
use Rattle.ispd_reader.proofs.NetFits.{done_at}
use Rattle.ispd_reader.proofs.nets_reader.NetsReader.take_net.Goals as goal

pub returns-in_err-word : goal.returns-in_err-word
returns-in_err-word c = λ grid fits.
    let p = err_from_is_err_and c.from_residual.result c.from_residual.ensures.1 in
    rw (p.1, p.2) (refused_there grid c.args.token.now stages.Net c.args.self.now _ (word_at wanted.Net) c.in_err-word.field-0.0 nets_left_at_net c.requires (λ r. refl) (λ fault. refl) c.in_err-word.ensures)

pub returns : goal.returns
unfolding nets_left
returns c = λ grid fits. took grid c.args.token.now stages.Net c.args.self.now _ (word_at wanted.Net) tt nets_left_at_net c.requires (λ r. refl) (λ after. refl) c.in_ok-word.ensures
    (record { done = done_at grid c.args.self.now stages.Net c.requires fits; present = tt })
