use Rattle.std.proofs.Common.{◌≡◌, ℕ, ◌<◌, ◌+◌, take, length, max, slice_index, arith, ap, sym, ◌∙◌}
use Rattle.std.proofs.lemmas.List.{take_all}
use Rattle.std.proofs.lemmas.List.Sums.{fold_more}
use Rattle.std.specs.Ordering.{nat_cmp, ord_max}
use Rattle.grid_base.specs.Numbers.{layers}
use Rattle.grid_graph.specs.Grids.{size_of, layout_of}
use Rattle.ispd_reader.specs.Nets.{widest_spacing}
use Rattle.ispd_reader.proofs.net_numbers.greatest_spacing.Goals as goal

max_is : (a b r : ℕ) → r ≡ ord_max nat_cmp a b → r ≡ max a b
max_is a b r e = grind arith

pub loop-layer-preserved : goal.loop-layer-preserved
loop-layer-preserved c =
    let items = (layout_of c.args.grid.now).spacings in
    let long = c.args.grid.now.limits.spaced.long in
    let here = c.args.grid.now.limits.spaced.within c.loop-layer.layer in
    let same : layers c.size.result ≡ layers (size_of c.args.grid.now) = ap layers c.size.ensures in
    let lt : c.loop-layer.layer < length items = omega arith in
    let more : widest_spacing (take (c.loop-layer.layer + 1) items) ≡ max (widest_spacing (take c.loop-layer.layer items)) (slice_index items c.loop-layer.layer) = fold_more max 0 items c.loop-layer.layer 0 lt in
    let top : c.max-spacing.result ≡ max c.loop-layer.spacing c.spacing.result = max_is c.loop-layer.spacing c.spacing.result c.max-spacing.result c.max-spacing.ensures in
    (top ∙ rw (c.spacing.ensures, c.loop-layer.invariant.0) (sym more), omega arith)

pub returns-clause-value : goal.returns-clause-value
returns-clause-value c =
    let items = (layout_of c.args.grid.now).spacings in
    let long = c.args.grid.now.limits.spaced.long in
    let same : layers c.size.result ≡ layers (size_of c.args.grid.now) = ap layers c.size.ensures in
    c.loop-layer.invariant.0 ∙ ap widest_spacing (take_all c.loop-layer.layer items (omega arith))
