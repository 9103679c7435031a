use Rattle.grid_graph.proofs.Designs.{design_numbered}
use Rattle.ispd_reader.proofs.NetNames.{design_named}
use Rattle.ispd_reader.proofs.laws.names_of_a_design.Goals as goal

pub returns-clause-word : goal.returns-clause-word
returns-clause-word c = design_named

pub returns-clause-id : goal.returns-clause-id
returns-clause-id c = λ text d named. design_numbered d
