use Rattle.std.proofs.Common.{◌≡◌, ℕ, ◌∷◌, [], ◌++◌, List, map, sym, ◌∙◌, ap, slice_index, zero-add}
use Rattle.std.specs.List.{range_with_len}
use Rattle.std.proofs.lemmas.List.FromFn.{map-range_with_len_more}
use Rattle.congestion_cells.specs.declared.cell.Cell.{Cell}
use Rattle.congestion_cells.specs.Cells.{cell_of_use, edge_cell}
use Rattle.congestion_cells.proofs.cells_of_edges.edge_cells.Goals as goal

pub loop-e-preserved : goal.loop-e-preserved
loop-e-preserved c =
    let cell : ℕ → Cell = edge_cell c.args.grid.now (slice_index c.args.loads.now) c.args.shown in
    let e = c.loop-e.e in
    let is : c.of.result ≡ cell e = c.of.ensures ∙ ap cell_of_use c.tile_use.ensures.value in
    c.in_ok-push.ensures.items
    ∙ ap (λ (xs : List Cell). xs ++ c.of.result ∷ []) c.loop-e.invariant
    ∙ ap (λ (x : Cell). map cell (range_with_len 0 e) ++ x ∷ []) is
    ∙ sym (map-range_with_len_more cell 0 e e (zero-add e))
