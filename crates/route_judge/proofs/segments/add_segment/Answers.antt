use Rattle.std.proofs.Common.{rules, sym}
use Rattle.grid_base.specs.Lines.{AreInLine}
use Rattle.route_judge.proofs.OnSegments.{HasEnds, stops_at_wall, put_on}
use Rattle.route_judge.proofs.segments.add_segment.Goals as goal

pub returns-clause-stops : goal.returns-clause-stops
returns-clause-stops c =
    let d = c.args.design.now in
    let from = c.in-Some.from in
    let to = c.in-Some-place_of.to in
    let at : HasEnds d.grid c.args.segment from to = record { starts = sym c.in-Some.ensures.place; ends = sym c.in-Some-place_of.ensures.place } in
    let straight : AreInLine from to = search rules in
    stops_at_wall d c.args.block c.args.number c.args.segment from to c.args.runs.now.items c.add_between.new.runs.items c.add_between.result at straight c.add_between.ensures.put c.add_between.ensures.wall

pub returns-clause-put : goal.returns-clause-put
returns-clause-put c =
    let d = c.args.design.now in
    let from = c.in-Some.from in
    let to = c.in-Some-place_of.to in
    let at : HasEnds d.grid c.args.segment from to = record { starts = sym c.in-Some.ensures.place; ends = sym c.in-Some-place_of.ensures.place } in
    let straight : AreInLine from to = search rules in
    put_on d.grid c.args.segment from to c.args.runs.now.items c.add_between.new.runs.items c.add_between.result at straight c.add_between.ensures.put
