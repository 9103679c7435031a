use Rattle.std.proofs.Common.{◌≡◌, ℕ, arith, subst}
use Rattle.grid_base.specs.Numbers.{layers}
use Rattle.ispd_reader.specs.LayersRead.{AreRead}
use Rattle.ispd_reader.proofs.header_steps.behind_values.Goals as goal

pub returns-clause-limits : goal.returns-clause-limits
returns-clause-limits c =
    let all : c.args.done ≡ layers c.args.size = omega (arith, c.requires, c.if-done-layers.false, c.layers.ensures) in
    λ lists read. c.behind_list.ensures.limits lists (subst (λ (done : ℕ). AreRead (layers c.args.size) c.args.list done lists) all read)
