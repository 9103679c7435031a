use Rattle.std.proofs.Common.{◌≡◌, ◌-◌, ◌^◌, ◌/◌, ◌%◌, ◌<◌, ap, ◌∙◌, arith}
use Rattle.std.proofs.Math.Nat.{div-le_self}
use Rattle.straight_runs.proofs.Lines.{run_begins}
use Rattle.straight_runs.proofs.Together.{behind_by, count_within}
use Rattle.straight_runs.proofs.merging.count_together.Goals as goal
use Rattle.straight_runs.proofs.merging.count_together.Goals.{then-apart-rise-ne0-via-then-apart-rise-ne0, then-apart-rise-ne0-via-else-apart-rise-ne0+then-apart-rise}

pub returns-then-apart-rise-ne0 : goal.returns-then-apart-rise-ne0
returns-then-apart-rise-ne0 c apart behind =
    let gap = c.args.next.first.0 - c.args.run.first.0 in
    let by = behind_by c.args.size c.args.run c.args.next apart behind in
    let none : gap % c.rise-rise.result ≡ 0 = ap (λ k. gap % k) c.rise-rise.ensures.value ∙ by.0 in
    let far : gap / c.rise-rise.result ≡ apart = ap (λ k. gap / k) c.rise-rise.ensures.value ∙ by.1 in
    elim c.then-apart-rise-ne0.branch [
      | then-apart-rise-ne0-via-then-apart-rise-ne0 w ↦ absurd (w.if-apart-rise-ne0.true none)
      | then-apart-rise-ne0-via-else-apart-rise-ne0+then-apart-rise w ↦ omega (arith, far, w.if-apart-rise.true)
    ]

pub overflow_add-apart : goal.overflow_add-apart
overflow_add-apart c =
    let near : c.args.next.first.0 < 2 ^ 23 = omega (arith, run_begins c.args.size c.args.next c.requires.next, c.args.size.within.vertex_limit) in
    let short : c.args.next.count < 2 ^ 23 = count_within c.args.size c.args.next c.requires.next in
    omega (arith, div-le_self (c.args.next.first.0 - c.args.run.first.0) c.rise-rise.result)
