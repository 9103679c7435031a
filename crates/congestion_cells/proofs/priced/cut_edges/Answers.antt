use Rattle.std.proofs.Common.{ℕ, ◌∷◌, [], ◌++◌, Bool, List, cond, slice_index, sym, ◌∙◌, ap}
use Rattle.std.specs.List.{filter, range_with_len}
use Rattle.std.proofs.lemmas.List.{append-nil}
use Rattle.congestion_cells.specs.CutEdges.{is_priced}
use Rattle.congestion_cells.proofs.Uses.{filter_more}
use Rattle.congestion_cells.proofs.priced.cut_edges.Goals as goal
use Rattle.congestion_cells.proofs.priced.cut_edges.Goals.{then-is_priced+in_ok-push, else-is_priced}

pub loop-e-preserved : goal.loop-e-preserved
loop-e-preserved c =
    let p : ℕ → Bool = is_priced c.args.size (slice_index c.args.prices.now) c.args.shown in
    let e = c.loop-e.e in
    let old : List ℕ = filter p (range_with_len 0 e) in
    elim c.if-is_priced.branch [
      | then-is_priced+in_ok-push w ↦ rw w.cut-is (w.in_ok-push.ensures.items
          ∙ ap (λ (xs : List ℕ). xs ++ e ∷ []) c.loop-e.invariant
          ∙ sym (ap (λ (b : Bool). old ++ cond b (e ∷ []) []) (sym c.is_priced.ensures ∙ w.if-is_priced.true))
          ∙ sym (filter_more p e))
      | else-is_priced w ↦ rw w.cut-is (c.loop-e.invariant
          ∙ sym (append-nil old)
          ∙ sym (ap (λ (b : Bool). old ++ cond b (e ∷ []) []) (sym c.is_priced.ensures ∙ w.if-is_priced.false))
          ∙ sym (filter_more p e))
    ]
