use Rattle.std.proofs.Common.{◌*◌, ap, arith}
use Rattle.straight_runs.proofs.Lines.{run_ends}
use Rattle.straight_runs.proofs.run.Run.end.Goals as goal

pub overflow_mul-result : goal.overflow_mul-result
overflow_mul-result c =
    omega (arith, run_ends c.args.size c.args.self c.requires, ap (λ n. c.args.self.count * n) c.rise.ensures.value, c.args.size.within.vertex_limit)

pub overflow_add-result : goal.overflow_add-result
overflow_add-result c =
    omega (arith, run_ends c.args.size c.args.self c.requires, ap (λ n. c.args.self.count * n) c.rise.ensures.value, c.args.size.within.vertex_limit)

pub returns-clause-vertex : goal.returns-clause-vertex
returns-clause-vertex c =
    omega (arith, run_ends c.args.size c.args.self c.requires, ap (λ n. c.args.self.count * n) c.rise.ensures.value)
