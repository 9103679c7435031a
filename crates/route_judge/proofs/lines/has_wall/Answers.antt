use Rattle.std.proofs.Common.{◌≡◌, ◌<◌, ◌∙◌, ap, sym, subst}
use Rattle.std.proofs.lemmas.Bool.{lt-ltb, ltb-true}
use Rattle.straight_runs.specs.LineCounts.{kind_count}
use Rattle.straight_runs.specs.Runs.{IsStraightRun, run_pieces}
use Rattle.grid_graph.specs.declared.kind.Kind.TheVariants.{Wall}
use Rattle.grid_graph.specs.Grids.{size_of}
use Rattle.route_judge.proofs.Walls.{wall_where_counted, counted_where_wall}
use Rattle.route_judge.proofs.lines.has_wall.Goals as goal

pub count-requires : goal.count-requires
count-requires c = subst (λ g. IsStraightRun (size_of g) c.args.run) (sym c.requires.walls.of_grid) c.requires.run

pub returns : goal.returns
returns c =
    let g = c.args.grid.now in
    let run = c.args.run in
    let pieces = run_pieces (size_of g) run in
    let walls = c.args.walls.now in
    let told : c.count.result ≡ kind_count g Wall pieces =
    c.count.ensures ∙ ap (λ k. kind_count walls.grid.now k (run_pieces (size_of walls.grid.now) run)) c.requires.walls.of_kind
    ∙ ap (λ h. kind_count h Wall (run_pieces (size_of h) run)) c.requires.walls.of_grid in (
      λ some. wall_where_counted g pieces (subst (λ n. 0 < n) told (ltb-true 0 c.count.result some)),
      λ wall. lt-ltb 0 c.count.result (subst (λ n. 0 < n) (sym told) (counted_where_wall g pieces wall)),
    )
