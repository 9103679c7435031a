use Rattle.std.proofs.Common.{ℕ, Bool, sym, ◌∙◌}
use Rattle.congestion_picture.specs.CellMaps.{is_painted}
use Rattle.congestion_picture.specs.Paths.{run_in}
use Rattle.congestion_picture.proofs.Runs.{run_more}
use Rattle.congestion_picture.proofs.paths.run_from.Goals as goal

pub loop-end-preserved : goal.loop-end-preserved
loop-end-preserved c =
    let is : ℕ → Bool = is_painted c.args.map.now c.args.paint c.args.row in
    run_more is c.args.column c.loop-end.end c.columns-columns.result (run_in c.args.map.now c.args.paint c.args.row c.args.column)
    c.loop-end.auto.end c.loop-end-test.true (sym c.is_painted.ensures ∙ c.if-not-is_painted.false) c.loop-end.invariant
