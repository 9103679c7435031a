use Rattle.std.proofs.Common.{◌++◌, ◌∷◌, [], List, sym, ◌∙◌, ap, arith}
use Rattle.std.specs.Prelude.{slice_index}
use Rattle.std.proofs.lemmas.Bool.{lt-ltb, le-ltb}
use Rattle.unavoidable_cli.specs.declared.priced_edge.PricedEdge.{PricedEdge}
use Rattle.judge_laws.proofs.Kept.{kept-more, kept-same}
use Rattle.unavoidable_cli.proofs.PricedEdges.{has_price, with_price}
use Rattle.unavoidable_cli.proofs.price_lists.priced_edges.Goals as goal
use Rattle.unavoidable_cli.proofs.price_lists.priced_edges.Goals.{then-price-gt0+in_ok-push, else-price-gt0}

pub loop-e-preserved : goal.loop-e-preserved
loop-e-preserved c =
    let prices = c.args.prices.now in
    let e = c.loop-e.e in
    elim c.if-price-gt0.branch [
      | then-price-gt0+in_ok-push w ↦ rw w.edges-is (w.in_ok-push.ensures.items
          ∙ ap (λ (xs : List PricedEdge). xs ++ with_price prices e ∷ []) c.loop-e.invariant
          ∙ sym (kept-more (has_price prices) (with_price prices) e (lt-ltb 0 (slice_index prices e) (omega (arith, w.if-price-gt0.true)))))
      | else-price-gt0 w ↦ rw w.edges-is (c.loop-e.invariant
          ∙ sym (kept-same (has_price prices) (with_price prices) e (le-ltb 0 (slice_index prices e) (omega (arith, w.if-price-gt0.false)))))
    ]
