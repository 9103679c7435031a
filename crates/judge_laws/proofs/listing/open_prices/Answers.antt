use Rattle.std.proofs.Common.{◌++◌, ◌∷◌, [], ℕ, List, sym, ◌∙◌, ap, arith}
use Rattle.std.specs.Prelude.{slice_index}
use Rattle.std.proofs.lemmas.Bool.{lt-ltb, le-ltb}
use Rattle.edge_prices.specs.Weights.{is_open}
use Rattle.grid_graph.specs.Grids.{capacity}
use Rattle.judge_laws.proofs.Kept.{kept-more, kept-same}
use Rattle.judge_laws.proofs.listing.open_prices.Goals as goal
use Rattle.judge_laws.proofs.listing.open_prices.Goals.{then-capacity-gt0+in_ok-push, else-capacity-gt0}

pub loop-e-preserved : goal.loop-e-preserved
loop-e-preserved c =
    let g = c.args.grid.now in
    let prices = c.args.prices.now in
    let e = c.loop-e.e in
    elim c.if-capacity-gt0.branch [
      | then-capacity-gt0+in_ok-push w ↦ rw w.open-is (w.in_ok-push.ensures.items
          ∙ ap (λ (xs : List ℕ). xs ++ slice_index prices e ∷ []) c.loop-e.invariant
          ∙ sym (kept-more (is_open g) (slice_index prices) e (lt-ltb 0 (capacity g e) (omega (arith, w.if-capacity-gt0.true, c.capacity.ensures.value)))))
      | else-capacity-gt0 w ↦ rw w.open-is (c.loop-e.invariant
          ∙ sym (kept-same (is_open g) (slice_index prices) e (le-ltb 0 (capacity g e) (omega (arith, w.if-capacity-gt0.false, c.capacity.ensures.value)))))
    ]
