use Rattle.ispd_reader.proofs.Pieces.{token_closed}
use Rattle.ispd_reader.proofs.progress.Progress.take_token.Goals as goal

pub returns : goal.returns
returns c text so_far = token_closed c.args.self.now.machine c.take-taken.new.self c.args.self.now.token c.clear.new.self c.take-taken.result text so_far c.requires c.clear.ensures (c.take-taken.ensures.takes so_far.made so_far.stands)
