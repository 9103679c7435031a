use Rattle.std.proofs.Common.{rules, subst}
use Rattle.gr_desk.specs.declared.port.Port.TheVariants.{MapOut}
use Rattle.gr_desk.specs.Pens.{Ends, pen_told}
use Rattle.gr_desk.proofs.Pens.{ends-put}
use Rattle.congestion_cli.specs.Drawings.{drawing_text}
use Rattle.congestion_cli.proofs.map_file.write_map.Goals as goal

pub returns : goal.returns
returns g c =
    let told = g.D.Desk.told in
    let start = told c.args.desk.now in
    let text = drawing_text c.args.name.now c.args.drawing.now in
    let new = c.new-pen.ensures in
    let ended : Ends start (told c.finish.new.self.0) MapOut text c.finish.result =
    ends-put start _ MapOut (pen_told told c.new-pen.result) _ text _ new.told new.port new.nothing new.well c.put_drawing.ensures.puts c.finish.ensures in
    subst (λ (desk : g.row.D.Denot). Ends start (told desk) MapOut text c.finish.result) (search rules) ended
