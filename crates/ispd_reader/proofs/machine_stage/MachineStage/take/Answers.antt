use Rattle.ispd_reader.proofs.MachineSteps.{body_moves}
use Rattle.ispd_reader.proofs.machine_stage.MachineStage.take.Goals as goal

pub returns-in-Body-clause-takes : goal.returns-in-Body-clause-takes
returns-in-Body-clause-takes c =
    rw c.in-Body.is (λ made capacities. body_moves c.args.token.now c.take.result c.in-Body.body c.take.new.self made (c.take.ensures.takes made capacities))
