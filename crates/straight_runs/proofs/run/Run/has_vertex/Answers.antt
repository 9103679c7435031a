use Rattle.std.proofs.Common.{◌≡◌, ◌-◌, ◌*◌, ◌/◌, ap, leb-true, arith}
use Rattle.std.proofs.Math.Nat.{mod-add-div'}
use Rattle.straight_runs.proofs.run.Run.has_vertex.Goals as goal

pub returns-then-apart-rise-eq0 : goal.returns-then-apart-rise-eq0
returns-then-apart-rise-eq0 c near =
    let apart = c.args.v.0 - c.args.self.first.0 in
    let steps = apart / c.rise-rise.result in
    let whole : apart ≡ steps * c.rise-rise.result = omega (arith, mod-add-div' apart c.rise-rise.result, c.if-apart-rise-eq0.true) in
    (steps, leb-true steps c.args.self.count near, omega (arith, whole, c.if-v-self.false, ap (λ n. steps * n) c.rise-rise.ensures.value))
