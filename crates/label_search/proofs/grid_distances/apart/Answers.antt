use Rattle.std.proofs.Common.{◌∙◌, refl, arith}
use Rattle.std.specs.Int.{abs_diff}
use Rattle.label_search.proofs.FloorSteps.{floor_distance-limit}
use Rattle.label_search.proofs.grid_distances.apart.Goals as goal

pub overflow_add-result : goal.overflow_add-result
overflow_add-result c =
    let low = c.requires.floors in
    let here = c.args.here in
    let there = c.args.goal in
    omega (
      arith,
      floor_distance-limit c.args._size there here c.args.floors c.from.result c.from-2.result
          (abs_diff here.layer there.layer) c.requires.goal low.x low.y low.vias c.requires.here
          (c.from.ensures ∙ c.abs_diff.ensures) (c.from-2.ensures ∙ c.abs_diff-2.ensures) refl,
    )

pub overflow_add-result-2 : goal.overflow_add-result-2
overflow_add-result-2 c =
    let low = c.requires.floors in
    omega (
      arith,
      floor_distance-limit c.args._size c.args.goal c.args.here c.args.floors c.from.result c.from-2.result
          c.from-3.result c.requires.goal low.x low.y low.vias c.requires.here (c.from.ensures ∙ c.abs_diff.ensures)
          (c.from-2.ensures ∙ c.abs_diff-2.ensures) (c.from-3.ensures ∙ c.abs_diff-3.ensures),
    )

pub returns-clause-limit : goal.returns-clause-limit
returns-clause-limit c =
    let low = c.requires.floors in
    floor_distance-limit c.args._size c.args.goal c.args.here c.args.floors c.from.result c.from-2.result c.from-3.result
    c.requires.goal low.x low.y low.vias c.requires.here (c.from.ensures ∙ c.abs_diff.ensures)
    (c.from-2.ensures ∙ c.abs_diff-2.ensures) (c.from-3.ensures ∙ c.abs_diff-3.ensures)
