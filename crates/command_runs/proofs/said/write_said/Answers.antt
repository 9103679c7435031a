use Rattle.std.proofs.Common.{rules, subst}
use Rattle.gr_desk.specs.declared.port.Port.TheVariants.{Report}
use Rattle.gr_desk.specs.Pens.{Ends, pen_told}
use Rattle.gr_desk.proofs.Pens.{ends-put}
use Rattle.command_runs.proofs.said.write_said.Goals as goal

pub returns : goal.returns
returns g c =
    let told = g.D.Desk.told in
    let start = told c.args.desk.now in
    let text = g.S.Said.text c.args.said.now in
    let new = c.new-pen.ensures in
    let ended : Ends start (told c.finish.new.self.0) Report text c.finish.result =
    ends-put start _ Report (pen_told told c.new-pen.result) _ text _ new.told new.port new.nothing new.well c.put.ensures.puts c.finish.ensures in
    subst (λ (desk : g.row.D.Denot). Ends start (told desk) Report text c.finish.result) (search rules) ended
