use Rattle.ispd_reader.proofs.Pieces.{grown_ok}
use Rattle.ispd_reader.proofs.progress.Progress.add_to_token.Goals as goal

pub returns-else-is_err : goal.returns-else-is_err
returns-else-is_err c text solid so_far =
    grown_ok c.extend-kept.result c.args.self.now.machine c.args.self.now.token c.extend-kept.new.self text c.args.bytes.now c.requires solid c.extend-kept.ensures.token c.extend-kept.ensures.some so_far
