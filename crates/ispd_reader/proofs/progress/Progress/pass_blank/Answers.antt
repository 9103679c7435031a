use Rattle.std.proofs.Common.{sym, ◌∙◌}
use Rattle.ispd_reader.proofs.Pieces.{blank_passed, closed_goes_on}
use Rattle.ispd_reader.proofs.progress.Progress.pass_blank.Goals as goal

pub returns-then-is_empty : goal.returns-then-is_empty
returns-then-is_empty c text blank is so_far = blank_passed c.args.self.now.machine c.args.self.now.token text blank is (sym c.is_empty.ensures ∙ c.if-is_empty.true) so_far

pub returns : goal.returns
returns c text blank is so_far = closed_goes_on c.take_token.new.self c.take_token.result text blank is (c.take_token.ensures text so_far)
