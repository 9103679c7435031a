use Rattle.ispd_reader.proofs.MachineSteps.{all_left}
use Rattle.ispd_reader.proofs.machine_stage.MachineStage.new.Goals as goal

pub returns-clause-left : goal.returns-clause-left
returns-clause-left c = λ r. all_left c.new.result r (c.new.ensures r)
