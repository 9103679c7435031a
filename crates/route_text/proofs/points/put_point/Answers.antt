use Rattle.std.proofs.Common.{rules}
use mir.Val.{SFits}
use mir.Syntax.{w128}
use Rattle.std.proofs.lemmas.Int.{to_z-of_z}
use Rattle.gr_desk.proofs.Pens.{puts-then}
use Rattle.route_text.proofs.points.put_point.Goals as goal

pub returns-clause-puts : goal.returns-clause-puts
returns-clause-puts g c =
    let x_fits : SFits w128 c.x_of.result = search rules in
    let y_fits : SFits w128 c.y_of.result = search rules in
    let across = rw (to_z-of_z w128 c.x_of.result x_fits, c.x_of.ensures, c.place_of-place.ensures.place, c.size.ensures) at c.put_position.ensures.puts in
    let along = rw (to_z-of_z w128 c.y_of.result y_fits, c.y_of.ensures, c.place_of-place.ensures.place, c.size.ensures) at c.put_position-2.ensures.puts in
    let up = rw (c.place_of-place.ensures.place, c.size.ensures) at c.put_number.ensures.puts in
    puts-then (puts-then (puts-then (puts-then (puts-then (puts-then c.put.ensures.puts across) c.put-2.ensures.puts) along) c.put-3.ensures.puts) up) c.put-4.ensures.puts
