use Rattle.command_runs.proofs.Endings.{tries-to_say}
use Rattle.command_runs.proofs.said.try_to_say.Goals as goal

pub returns : goal.returns
returns g c = tries-to_say _ _ _ c.write_said.result c.write_said.ensures
