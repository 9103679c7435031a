use Rattle.std.proofs.Common.{◌≡◌, true, Contains, Some, refl, sym, subst}
use Rattle.straight_runs.specs.Between.{IsRunBetween, RunsBetween}
use Rattle.straight_runs.specs.Runs.{run_pieces}
use Rattle.grid_graph.specs.Grids.{size_of}
use Rattle.route_judge.specs.Lines.{ArePut, HasWall}
use Rattle.route_judge.proofs.Puts.{put_run, wall_among}
use Rattle.route_judge.proofs.lines.add_between.Goals as goal

pub has_wall-requires-clause-run : goal.has_wall-requires-clause-run
has_wall-requires-clause-run c = (subst (λ s. IsRunBetween s c.args.from c.args.to (Some c.in-Some.run')) c.size.ensures c.in-Some.ensures).0

pub returns-then-has_wall-clause-wall : goal.returns-then-has_wall-clause-wall
returns-then-has_wall-clause-wall c =
    let g = c.args.grid.now in
    let s = size_of g in
    let run = c.in-Some.run' in
    let is = subst (λ s. IsRunBetween s c.args.from c.args.to (Some run)) c.size.ensures c.in-Some.ensures in
    (refl, wall_among g (Contains (run_pieces s run)) (RunsBetween s c.args.from c.args.to) (λ p held. (is.1 p).0 held) (c.has_wall.ensures.0 c.if-has_wall.true))

pub returns-clause-put : goal.returns-clause-put
returns-clause-put c =
    let g = c.args.grid.now in
    let s = size_of g in
    let run = c.in-Some.run' in
    let is = subst (λ s. IsRunBetween s c.args.from c.args.to (Some run)) c.size.ensures c.in-Some.ensures in
    let none : ¬ HasWall g (Contains (run_pieces s run)) = λ wall. let told : c.has_wall.result ≡ true = c.has_wall.ensures.1 wall in cc (told, c.if-has_wall.false) in
    subst (ArePut g (RunsBetween s c.args.from c.args.to) c.args.runs.now.items) (sym c.in_ok-push.ensures.items)
    (put_run g (RunsBetween s c.args.from c.args.to) c.args.runs.now.items run is.0 none (λ p runs. runs.of_grid) (λ p held. (is.1 p).0 held) (λ p runs. (is.1 p).1 runs))
