use Rattle.sharing_runs.proofs.Turns.{run_of_steps}
use Rattle.sharing_runs.proofs.laws.steps_in_turn_are_a_run.Goals as goal

pub returns : goal.returns
returns c = λ d trees long loads steps. run_of_steps d trees long (record { loads = loads; steps = steps })
