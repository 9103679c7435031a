use Rattle.std.proofs.lemmas.Result.{err_from_is_err_and}
use Rattle.ispd_reader.proofs.Fed.{over_design, over_refusal}
use Rattle.ispd_reader.proofs.progress.Progress.end.Goals as goal

pub returns-clause-design : goal.returns-clause-design
returns-clause-design c text long so_far =
    let over = c.in_ok-close.ensures text so_far in
    over_design c.close.new.self.machine text over c.end.result (c.end.ensures.design over.made over.stands)

pub returns-clause-refusal : goal.returns-clause-refusal
returns-clause-refusal c text long so_far =
    let over = c.in_ok-close.ensures text so_far in
    over_refusal c.close.new.self.machine text c.args.bytes over c.end.result long (c.end.ensures.refusal over.made over.stands)

pub returns-in_err-close-clause-refusal : goal.returns-in_err-close-clause-refusal
returns-in_err-close-clause-refusal c text long so_far =
    let p = err_from_is_err_and c.from_residual.result c.from_residual.ensures.1 in
    rw (p.1, p.2) (c.in_err-close.ensures text so_far)
