use Rattle.std.proofs.Common.{get_or, sym, ◌∙◌}
use Rattle.std.proofs.lemmas.Result.{err_from_is_err_and}
use Rattle.ispd_reader.proofs.Pieces.{blank_first, blank_refused, solid_front}
use Rattle.ispd_reader.proofs.progress.Progress.step.Goals as goal

pub returns-in_err-pass_blank-clause-read : goal.returns-in_err-pass_blank-clause-read
returns-in_err-pass_blank-clause-read c text long so_far =
    let p = err_from_is_err_and c.from_residual.result c.from_residual.ensures.1 in
    let bytes = c.args.bytes.now in
    let blank = blank_first bytes c.requires (sym c.blank_or_end-solid.ensures.end ∙ c.if-solid-eq0.true) in
    rw (p.1, p.2) (blank_refused c.pass_blank.new.self c.in_err-pass_blank.field-0.0 text bytes c.requires (c.in_err-pass_blank.ensures text (get_or bytes 0 0) blank so_far))

pub returns-clause-read : goal.returns-clause-read
returns-clause-read c text long so_far =
    c.in_ok-read_solid.ensures text long (rw c.blank_or_end-solid.ensures.end (solid_front c.args.bytes.now)) so_far
