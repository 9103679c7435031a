use Rattle.std.proofs.Common.{[]}
use Rattle.std.proofs.lemmas.Result.{err_from_is_err_and}
use Rattle.ispd_reader.proofs.Fed.{answer_stands}
use Rattle.ispd_reader.proofs.reading.read_design.Goals as goal

pub returns-in_err-feed-clause-refusal : goal.returns-in_err-feed-clause-refusal
returns-in_err-feed-clause-refusal c =
    let p = err_from_is_err_and c.from_residual-in_err-feed.result c.from_residual-in_err-feed.ensures.1 in
    let so_far = (c.in_err-feed.ensures.read [] c.in_ok-reader.ensures.read).so_far in
    rw (p.1, p.2) (answer_stands c.in_err-feed.field-0.0 c.feed.new.self.progress c.args.bytes.now (rw c.in_err-feed.ensures.answered at so_far))

pub returns-clause-design : goal.returns-clause-design
returns-clause-design c = c.end.ensures.design c.args.bytes.now (c.in_ok-feed.ensures.read [] c.in_ok-reader.ensures.read)

pub returns-clause-refusal : goal.returns-clause-refusal
returns-clause-refusal c = c.end.ensures.refusal c.args.bytes.now (c.in_ok-feed.ensures.read [] c.in_ok-reader.ensures.read)
