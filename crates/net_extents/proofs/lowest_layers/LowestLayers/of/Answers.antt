use Rattle.std.proofs.Common.{◌≡◌, ◌+◌, sym, ◌∙◌, ap, subst, arith}
use Rattle.grid_base.specs.declared.axis.Axis.TheVariants.{X, Y}
use Rattle.grid_base.specs.Numbers.{edge_start, layer_of}
use Rattle.grid_graph.specs.Grids.{size_of}
use Rattle.net_extents.proofs.Lowest.{lowest-skip, lowest-with, AreLowest}
use Rattle.net_extents.proofs.lowest_layers.LowestLayers.of.Goals.{then-capacity-gt0, else-capacity-gt0}
use Rattle.net_extents.proofs.lowest_layers.LowestLayers.of.Goals as goal

pub loop-number-preserved : goal.loop-number-preserved
loop-number-preserved c =
    let g = c.args.grid.now in
    let n = c.loop-number.number in
    let old = c.loop-number.lowest in
    elim c.if-capacity-gt0.branch [
      | then-capacity-gt0 w ↦
          let here : w.layer_of.result ≡ layer_of (size_of g) (edge_start n) =
          w.layer_of.ensures.layer ∙ ap (λ s. layer_of s w.start.result.0) c.size-size.ensures ∙ ap (layer_of (size_of g)) w.start.ensures in
          subst (AreLowest g (n + 1)) (sym w.lowest-is)
          (lowest-with g n w.layer_of.result w.axis.result old w.with-lowest.result (omega (arith, w.if-capacity-gt0.true, c.capacity.ensures.value)) w.axis.ensures here
          w.with-lowest.ensures.along_x w.with-lowest.ensures.along_y c.loop-number.invariant)
      | else-capacity-gt0 w ↦
          subst (AreLowest g (n + 1)) (sym w.lowest-is) (
            lowest-skip g X n old.along_x (λ one. absurd (omega (arith, one.0, w.if-capacity-gt0.false, c.capacity.ensures.value))) c.loop-number.invariant.0,
            lowest-skip g Y n old.along_y (λ one. absurd (omega (arith, one.0, w.if-capacity-gt0.false, c.capacity.ensures.value))) c.loop-number.invariant.1,
          )
    ]
