use Rattle.router_cli.proofs.TrueTexts.{texts_meet}
use Rattle.router_cli.proofs.laws.texts_of_runs_meet_their_design.Goals as goal

pub returns : goal.returns
returns c = texts_meet
