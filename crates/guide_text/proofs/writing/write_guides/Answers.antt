use Rattle.std.proofs.Common.{rules, [], subst}
use Rattle.gr_desk.specs.Pens.{Ends, pen_told}
use Rattle.guide_text.specs.GuideText.{guides_text}
use Rattle.gr_desk.proofs.Pens.{put-nothing}
use Rattle.guide_text.proofs.writing.write_guides.Goals as goal

pub returns : goal.returns
returns g c =
    let told = g.D.Desk.told in
    let start = told c.args.desk.now in
    let text = guides_text c.args.guides.now in
    let new = c.new-pen.ensures in
    let puts = c.put_guides.ensures.puts in
    let put = puts.follows start [] (put-nothing start (pen_told told c.new-pen.result) new.told new.nothing new.well) in
    let ended : Ends start (told c.finish.new.self.0) c.args.port text c.finish.result = rw (← new.port, ← puts.port) (c.finish.ensures start _ put) in
    record { ends = subst (λ (desk : g.row.D.Denot). Ends start (told desk) c.args.port text c.finish.result) (search rules) ended }
