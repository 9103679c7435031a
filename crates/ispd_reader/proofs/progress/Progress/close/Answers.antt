use Rattle.std.proofs.Common.{sym, ◌∙◌}
use Rattle.ispd_reader.proofs.Pieces.{over_in_gap, closed_ends}
use Rattle.ispd_reader.proofs.progress.Progress.close.Goals as goal

pub returns-then-is_empty : goal.returns-then-is_empty
returns-then-is_empty c text so_far = over_in_gap c.args.self.now.machine c.args.self.now.token text (sym c.is_empty.ensures ∙ c.if-is_empty.true) so_far

pub returns : goal.returns
returns c text so_far = closed_ends c.take_token.new.self.machine c.take_token.new.self.token c.take_token.result text (c.take_token.ensures text so_far)
