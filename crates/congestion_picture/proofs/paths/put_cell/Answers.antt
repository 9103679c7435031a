use Rattle.std.proofs.Common.{sym, ◌∙◌}
use Rattle.gr_desk.specs.Pens.{pen_told}
use Rattle.gr_desk.proofs.Pens.{puts-refl}
use Rattle.congestion_picture.proofs.paths.put_cell.Goals as goal

pub returns-then-begins-clause-puts : goal.returns-then-begins-clause-puts
returns-then-begins-clause-puts g c = rw (sym c.begins.ensures ∙ c.if-begins.true) c.put_run.ensures.puts

pub returns-else-begins-clause-puts : goal.returns-else-begins-clause-puts
returns-else-begins-clause-puts g c = rw (sym c.begins.ensures ∙ c.if-begins.false) (puts-refl (pen_told g.D.Desk.told c.args.pen.now))
