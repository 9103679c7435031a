use Rattle.std.proofs.Common.{◌∙◌, ◌<◌, length}
use Rattle.std.proofs.lemmas.List.{get_or_default}
use Rattle.std.specs.Prelude.{filter}
use Rattle.grid_base.specs.Lines.{is_along}
use Rattle.route_text.specs.Pieces.{run_text}
use Rattle.gr_desk.proofs.Pens.{puts-more, puts-whole}
use Rattle.route_text.proofs.Apart.{first_edge}
use Rattle.route_text.proofs.Texts.{runs-by_piece}
use Rattle.route_text.proofs.net.put_runs.Goals as goal

pub loop-at-preserved : goal.loop-at-preserved
loop-at-preserved g c =
    let grid = c.args.grid.now in
    let ps = c.args.tree.now in
    let listed = c.pieces-pieces.ensures.listed in
    let edges = filter (is_along c.args.axis) ps in
    record {
      same_desk = c.put_run.ensures.same_desk ∙ c.loop-at.invariant.same_desk;
      puts = puts-more (λ p. run_text grid edges (is_along c.args.axis p) p) ps c.loop-at.at first_edge (rw listed at c.loop-at-test.true) c.loop-at.invariant.puts (rw listed at c.put_run.ensures.puts);
    }

pub put_run-requires-clause-here : goal.put_run-requires-clause-here
put_run-requires-clause-here g c other =
    let ps = c.args.tree.now in
    let listed = c.pieces-pieces.ensures.listed in
    let within : c.loop-at.at < length ps = rw listed at c.loop-at-test.true in
    rw listed (get_or_default ps c.loop-at.at other first_edge within)

pub returns-clause-puts : goal.returns-clause-puts
returns-clause-puts g c =
    let grid = c.args.grid.now in
    let ps = c.args.tree.now in
    let edges = filter (is_along c.args.axis) ps in
    rw (runs-by_piece grid c.args.axis ps)
    (puts-whole (λ p. run_text grid edges (is_along c.args.axis p) p) ps c.loop-at.at (rw c.pieces-pieces.ensures.listed at c.loop-at-test.false) c.loop-at.invariant.puts)
