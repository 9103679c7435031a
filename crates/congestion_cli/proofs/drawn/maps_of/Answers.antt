use Rattle.std.proofs.Common.{◌≡◌, ℕ, ◌*◌, List, length, map, sym, ◌∙◌, ap, slice_index, subst}
use Rattle.std.specs.List.{range_with_len}
use Rattle.std.proofs.lemmas.List.FromFn.{length-map-range_with_len}
use Rattle.congestion_cells.specs.declared.cell.Cell.{Cell}
use Rattle.congestion_cells.specs.declared.direction.Direction.TheVariants.{X, Y}
use Rattle.congestion_cells.specs.Cells.{edge_cell}
use Rattle.grid_base.specs.declared.size.Size.{Size}
use Rattle.grid_graph.specs.Flat.{tiles}
use Rattle.grid_graph.specs.Grids.{size_of}
use Rattle.congestion_cli.specs.MapHeadline.{IsMapOf}
use Rattle.congestion_cli.proofs.drawn.maps_of.Goals as goal

-- as many cells as a grid of this size has tile edges
many : (s t : Size) (cell : ℕ → Cell) (cells slice : List Cell) → slice ≡ cells → cells ≡ map cell (range_with_len 0 (2 * tiles s)) → t ≡ s
    → length slice ≡ 2 * tiles t
many s t cell cells slice value is same =
    ap length (value ∙ is) ∙ length-map-range_with_len cell 0 (2 * tiles s) ∙ ap (λ (u : Size). 2 * tiles u) (sym same)

pub map_of-requires : goal.map_of-requires
map_of-requires c = many (size_of c.args.grid.now) c.size-size.result (edge_cell c.args.grid.now (slice_index c.args.loads.now) c.args.shown)
    c.in_ok-cells.cells.items c.as_slice.result.now c.as_slice.ensures.value c.in_ok-cells.ensures c.size-size.ensures

pub map_of-requires-2 : goal.map_of-requires-2
map_of-requires-2 c = many (size_of c.args.grid.now) c.size-size.result (edge_cell c.args.grid.now (slice_index c.args.loads.now) c.args.shown)
    c.in_ok-cells.cells.items c.as_slice-2.result.now c.as_slice-2.ensures.value c.in_ok-cells.ensures c.size-size.ensures

pub map_of-requires-3 : goal.map_of-requires-3
map_of-requires-3 c = many (size_of c.args.grid.now) c.size-size.result (edge_cell c.args.grid.now (slice_index c.args.loads.now) c.args.shown)
    c.in_ok-cells.cells.items c.as_slice-3.result.now c.as_slice-3.ensures.value c.in_ok-cells.ensures c.size-size.ensures

pub returns-clause-maps : goal.returns-clause-maps
returns-clause-maps c =
    let cell : ℕ → Cell = edge_cell c.args.grid.now (slice_index c.args.loads.now) c.args.shown in
    let whole = c.in_ok-cells.ensures ∙ ap (λ (s : Size). map cell (range_with_len 0 (2 * tiles s))) (sym c.size-size.ensures) in
    let x = c.in_ok-along_x.ensures.map cell (c.as_slice-2.ensures.value ∙ whole) in
    let y = c.in_ok-along_y.ensures.map cell (c.as_slice-3.ensures.value ∙ whole) in
    rw c.if-greater.false (
      subst (λ (s : Size). IsMapOf s X cell c.in_ok-along_x.along_x) c.size-size.ensures x,
      subst (λ (s : Size). IsMapOf s Y cell c.in_ok-along_y.along_y) c.size-size.ensures y,
    )
