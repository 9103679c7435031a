use Rattle.std.proofs.Common.{◌≡◌, ◌+◌, ◌-◌}
use Rattle.congestion_picture.specs.CellMaps.{is_painted, painted_from}
use Rattle.congestion_picture.specs.Paths.{run_in}
use Rattle.congestion_picture.proofs.paths.run_from.Given as goal

-- the cells so far are painted
abbrev pub invariant-loop-end : goal.invariant-loop-end
invariant-loop-end l =
    run_in l.map l.paint l.row l.column ≡ (l.end - l.column) + painted_from (is_painted l.map l.paint l.row) l.end (l.columns - l.end)
