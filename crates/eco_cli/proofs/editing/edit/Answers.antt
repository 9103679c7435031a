use Rattle.eco_cli.proofs.Reachable.{steps-reachable}
use Rattle.eco_cli.proofs.editing.edit.Goals as goal

pub report_of-requires : goal.report_of-requires
report_of-requires c =
    steps-reachable c.args.edits.now c.in-Ok.eco c.make_edits.new.eco c.in-Ok-make_edits.ensures.steps (rw c.in-Ok.ensures.design c.requires.editable.reachable)
