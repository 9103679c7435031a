use Rattle.std.proofs.Common.{◌+◌, ℕ, slice_index, sym, ◌∙◌, ap, arith, zero-add, map, sum}
use Rattle.std.specs.List.{range_with_len}
use Rattle.std.proofs.lemmas.List.FromFn.{sum_by-map-range_with_len_more}
use Rattle.grid_graph.specs.Grids.{kind, capacity}
use Rattle.tree_set.specs.Measures.{excess}
use Rattle.tree_set.proofs.overflow.overflow_of.Goals as goal

pub loop-e-preserved : goal.loop-e-preserved
loop-e-preserved c =
    let g = c.args.grid.now in
    let e = c.loop-e.e in
    let f : ℕ → ℕ = λ k. excess (kind g k) (slice_index c.args.loads.now k) (capacity g k) in
    let more = sum_by-map-range_with_len_more (λ (x : ℕ). x) f 0 e e (zero-add e) in
    record {
      total = ap (λ (t : ℕ). t + c.excess-total.result) c.loop-e.invariant.total
          ∙ ap (λ (t : ℕ). sum (map f (range_with_len 0 e)) + t) c.excess-total.ensures.value ∙ sym more;
      small = omega (arith, c.excess-total.ensures.limit, c.requires.room e, c.loop-e.invariant.small);
    }
