use Rattle.std.proofs.Common.{sym, ◌∙◌}
use Rattle.gr_desk.specs.Pens.{pen_told}
use Rattle.gr_desk.proofs.Pens.{puts-refl}
use Rattle.congestion_picture.proofs.table.put_number_line.Goals as goal

pub returns-then-leads_on-clause-puts : goal.returns-then-leads_on-clause-puts
returns-then-leads_on-clause-puts g c = rw (sym (rw c.size.ensures at c.leads_on.ensures) ∙ c.if-leads_on.true) c.put_edge_line.ensures.puts

pub returns-else-leads_on-clause-puts : goal.returns-else-leads_on-clause-puts
returns-else-leads_on-clause-puts g c = rw (sym (rw c.size.ensures at c.leads_on.ensures) ∙ c.if-leads_on.false) (puts-refl (pen_told g.D.Desk.told c.args.pen.now))
