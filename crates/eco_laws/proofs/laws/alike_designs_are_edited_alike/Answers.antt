use Rattle.eco_laws.proofs.EditChains.{first_refused_alike, made_or_refused}
use Rattle.eco_laws.proofs.EditedAlike.{all_edited_alike}
use Rattle.eco_laws.proofs.RefusedAlike.{refused_alike}
use Rattle.eco_laws.proofs.laws.alike_designs_are_edited_alike.Goals as goal

pub returns-clause-edited : goal.returns-clause-edited
returns-clause-edited c = all_edited_alike

pub returns-clause-faults : goal.returns-clause-faults
returns-clause-faults c = refused_alike

pub returns-clause-refused : goal.returns-clause-refused
returns-clause-refused c = first_refused_alike

pub returns-clause-apart : goal.returns-clause-apart
returns-clause-apart c = made_or_refused
