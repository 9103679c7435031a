use Rattle.std.proofs.Common.{◌≡◌, ℕ, ◌*◌, ◌/◌, ◌%◌, get_or, length, map, refl, sym, ◌∙◌, ap, []}
use Rattle.std.specs.List.{range_with_len}
use Rattle.std.proofs.lemmas.List.FromFn.{fill_by_all, length-map-range_with_len}
use Rattle.congestion_cells.specs.declared.cell.Cell.{Cell}
use Rattle.congestion_cells.specs.Cells.{joined}
use Rattle.congestion_cells.specs.Rasters.{columns, map_cell, rows}
use Rattle.grid_base.specs.declared.size.Size.{Size}
use Rattle.grid_graph.specs.Flat.{tiles}
use Rattle.congestion_cli.proofs.drawn.map_of.Goals as goal

pub returns-clause-whole : goal.returns-clause-whole
returns-clause-whole c =
    let r = c.of-raster.result in
    let cell : ℕ → Cell = λ k. get_or c.args.edge_cells.now k (joined []) in
    let is = fill_by_all cell c.args.edge_cells.now (2 * tiles c.args.size) (joined []) c.requires (λ k below. refl) in
    let whole : c.args.edge_cells.now ≡ map cell (range_with_len 0 (2 * tiles r.size)) =
    is ∙ ap (λ (s : Size). map cell (range_with_len 0 (2 * tiles s))) (sym c.of-raster.ensures.size) in
    ap length (c.in_ok-cells.ensures cell whole)
    ∙ length-map-range_with_len (λ i. map_cell r cell (i % columns r) (i / columns r)) 0 (columns r * rows r)
