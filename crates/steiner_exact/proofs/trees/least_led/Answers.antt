use Rattle.std.proofs.Common.{sym, ap, ◌∙◌}
use Rattle.shortest_paths.specs.LabelWords.{label_of}
use Rattle.steiner_exact.proofs.TileTables.{tiles_inside, leading_as}
use Rattle.steiner_exact.proofs.trees.least_led.Goals as goal

pub distances_from_each-requires-clause-terminals : goal.distances_from_each-requires-clause-terminals
distances_from_each-requires-clause-terminals g c =
    tiles_inside (g.B.Family.size c.args.bounds.now) (g.W.Weights.size c.args.weights.now) (g.G.Weights.size c.args.ground.now)
    c.args.terminals.now c.args.tiles.now c.requires.flat c.requires.ground_size c.requires.tiles

pub new-rooted-requires-clause-rows : goal.new-rooted-requires-clause-rows
new-rooted-requires-clause-rows g c = λ place from inside.
    let ground = c.args.ground.now in
    let bounds = c.args.bounds.now in
    leading_as (g.G.Weights.size ground) (g.B.Family.size bounds) (g.G.Weights.pieces ground) (g.B.Family.pieces bounds)
    c.args.tiles.now (g.B.Family.terminals bounds) (g.B.Family.low bounds) c.args.limits.table
    (label_of c.distances_from_each.new.self) place c.requires.ground_size c.requires.ground (sym c.requires.same)
    (c.distances_from_each.ensures.rows place from inside).leads

pub distances_from_each-requires-2-clause-terminals : goal.distances_from_each-requires-2-clause-terminals
distances_from_each-requires-2-clause-terminals g c =
    tiles_inside (g.B.Family.size c.args.bounds.now) (g.W.Weights.size c.args.weights.now) (g.G.Weights.size c.args.ground.now)
    c.args.terminals.now c.args.tiles.now c.requires.flat c.requires.ground_size c.requires.tiles

pub new-led-requires-clause-rows : goal.new-led-requires-clause-rows
new-led-requires-clause-rows g c = λ place from inside.
    let ground = c.args.ground.now in
    let bounds = c.new-rooted.result.bounds.now in
    let same = sym c.new-rooted.ensures.bounds in
    leading_as (g.G.Weights.size ground) (g.B.Family.size bounds) (g.G.Weights.pieces ground) (g.B.Family.pieces bounds)
    c.args.tiles.now (g.B.Family.terminals bounds) _ c.args.limits.table
    (label_of c.distances_from_each-2.new.self) place (c.requires.ground_size ∙ ap (λ b. g.B.Family.size b) same)
    (c.requires.ground ∙ ap (λ b. g.B.Family.pieces b) same) (sym c.requires.same ∙ ap (λ b. g.B.Family.terminals b) same)
    (c.distances_from_each-2.ensures.rows place from inside).leads
