use Rattle.ispd_reader.proofs.Pieces.{begun_ok}
use Rattle.ispd_reader.proofs.progress.Progress.begin_token.Goals as goal

pub returns-else-is_err-clause-read : goal.returns-else-is_err-clause-read
returns-else-is_err-clause-read c text long solid so_far = begun_ok c.begin-kept.result c.args.self.now.machine c.args.self.now.token c.begin-kept.new.self text c.args.byte c.args.place c.requires long solid c.begin-kept.ensures.token c.begin-kept.ensures.some so_far
