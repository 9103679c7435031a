use Rattle.unavoidable_cli.proofs.ZeroBounds.{zero_beside}
use Rattle.unavoidable_cli.proofs.routes_alone.bound_beside.Goals as goal

pub returns-in-Some : goal.returns-in-Some
returns-in-Some c = λ g load is. zero_beside g load c.in-Some.field-0 c.of.result c.of.ensures (rw c.in-Some.is at is)
