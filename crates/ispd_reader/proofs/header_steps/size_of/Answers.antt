use Rattle.std.proofs.Common.{sym}
use Rattle.grid_base.proofs.Extents.{cols_within, rows_within}
use Rattle.text_scan.proofs.Ranges.{within_bounds}
use Rattle.ispd_reader.proofs.Ranges.{within_none, no_extent, size_is}
use Rattle.ispd_reader.proofs.header_steps.size_of.Goals as goal

pub returns-in_err-within : goal.returns-in_err-within
returns-in_err-within c = rw c.from_residual.ensures (sym (no_extent c.args.cols.value c.args.rows.value c.args.layers.value (λ s. within_none _ c.args.cols.value (sym c.in_err-within.ensures) s.has_col (cols_within _ _ _ s))))

pub returns-in_err-within-2 : goal.returns-in_err-within-2
returns-in_err-within-2 c = rw c.from_residual-in_err-within-2.ensures (sym (no_extent c.args.cols.value c.args.rows.value c.args.layers.value (λ s. within_none _ c.args.rows.value (sym c.in_err-within-2.ensures) s.has_row (rows_within _ _ _ s))))

pub returns-in_err-within-3 : goal.returns-in_err-within-3
returns-in_err-within-3 c = rw c.from_residual-in_err-within-3.ensures (sym (no_extent c.args.cols.value c.args.rows.value c.args.layers.value (λ s. within_none _ c.args.layers.value (sym c.in_err-within-3.ensures) s.has_layer s.layer_limit)))

pub returns : goal.returns
returns c =
    let a = within_bounds 1 _ c.args.cols.value _ (sym c.in_ok-within.ensures) in
    let b = within_bounds 1 _ c.args.rows.value _ (sym c.in_ok-within-2.ensures) in
    let d = within_bounds 1 _ c.args.layers.value _ (sym c.in_ok-within-3.ensures) in
    rw (a.0, b.0, d.0) (size_is _ _ _ c.new.result c.new.ensures.limits c.new.ensures.cols c.new.ensures.rows c.new.ensures.layers)
