use Rattle.std.proofs.Common.{◌∙◌, refl, arith}
use Rattle.steiner_exact.specs.Boxes.{width_with}
use Rattle.steiner_exact.proofs.BoxSteps.{box-limit}
use Rattle.steiner_exact.proofs.terminal_box.TerminalBox.distance.Goals as goal

pub overflow_add-result : goal.overflow_add-result
overflow_add-result c =
    let box = c.args.self in
    let place = c.args.place in
    omega (
      arith,
      box-limit c.args.size c.args.floors box place c.from.result c.from-2.result (width_with box.layers place.layer) c.requires.within c.requires.inside c.requires.place
          (c.from.ensures ∙ c.width_with.ensures) (c.from-2.ensures ∙ c.width_with-2.ensures) refl,
    )

pub overflow_add-result-2 : goal.overflow_add-result-2
overflow_add-result-2 c =
    omega (
      arith,
      box-limit c.args.size c.args.floors c.args.self c.args.place c.from.result c.from-2.result c.from-3.result c.requires.within c.requires.inside c.requires.place
          (c.from.ensures ∙ c.width_with.ensures) (c.from-2.ensures ∙ c.width_with-2.ensures) (c.from-3.ensures ∙ c.width_with-3.ensures),
    )

pub returns-clause-limit : goal.returns-clause-limit
returns-clause-limit c =
    box-limit c.args.size c.args.floors c.args.self c.args.place c.from.result c.from-2.result c.from-3.result c.requires.within c.requires.inside c.requires.place
    (c.from.ensures ∙ c.width_with.ensures) (c.from-2.ensures ∙ c.width_with-2.ensures) (c.from-3.ensures ∙ c.width_with-3.ensures)
