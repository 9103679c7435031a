use Rattle.std.proofs.Common.{◌+◌, ◌*◌, sym, ◌∙◌, ap, arith}
use Rattle.congestion_cells.specs.declared.cell.Cell.{Cell}
use Rattle.congestion_cells.specs.Cells.{with_cell}
use Rattle.congestion_cells.proofs.Joined.{joined_one, joined_two, read_cell, with_same}
use Rattle.congestion_cells.proofs.cells_of_tiles.with_tile.Goals as goal

pub returns-in-X : goal.returns-in-X
returns-in-X c cell is =
    rw c.in-X.is (c.with.ensures ∙ ap (λ (x : Cell). with_cell c.args.found x)
    (read_cell c.args.edge_cells.now cell (2 * c.args.tile) _ is (omega (arith, c.requires)) ∙ sym (joined_one (cell (2 * c.args.tile)))))

pub returns-in-Y : goal.returns-in-Y
returns-in-Y c cell is =
    rw c.in-Y.is (c.with-in-Y.ensures ∙ ap (λ (x : Cell). with_cell c.args.found x)
    (read_cell c.args.edge_cells.now cell (2 * c.args.tile + 1) _ is c.requires ∙ sym (joined_one (cell (2 * c.args.tile + 1)))))

pub returns-in-Greater : goal.returns-in-Greater
returns-in-Greater c cell is =
    let first = 2 * c.args.tile in
    rw c.in-Greater.is (c.with-in-Greater-2.ensures ∙ ap (λ (x : Cell). with_cell c.args.found x)
    (c.with-in-Greater.ensures
    ∙ with_same _ _ (cell first) (cell (first + 1))
    (read_cell c.args.edge_cells.now cell first _ is (omega (arith, c.requires)))
    (read_cell c.args.edge_cells.now cell (first + 1) _ is c.requires)
    ∙ sym (joined_two (cell first) (cell (first + 1)))))
