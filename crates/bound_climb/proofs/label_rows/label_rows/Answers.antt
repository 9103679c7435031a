use Rattle.std.proofs.Common.{◌++◌, ◌∷◌, [], ℕ, List, ◌∙◌, ◌+◌, sym, ap, arith}
use Rattle.std.proofs.lemmas.List.{map-append}
use Rattle.std.proofs.lemmas.List.FromFn.{map-range_with_len_more}
use Rattle.bound_climb.specs.LabelRows.{label_row, label_rows}
use Rattle.brought_bounds.specs.RowLists.{lists_of}
use Rattle.bound_climb.proofs.label_rows.label_rows.Goals as goal

pub loop-place-preserved : goal.loop-place-preserved
loop-place-preserved c =
    let l = c.args.labels.now in
    let n = c.loop-place.place in
    let row = c.in_ok-label_row.field-0 in
    ap lists_of c.in_ok-push.ensures.items ∙ map-append (λ xs. xs.items) c.loop-place.rows.items (row ∷ [])
    ∙ ap (λ (xss : List (List ℕ)). xss ++ row.items ∷ []) c.loop-place.invariant
    ∙ ap (λ (xs : List ℕ). label_rows l n ++ xs ∷ []) c.in_ok-label_row.ensures
    ∙ sym (map-range_with_len_more (λ k. label_row l (k + 1)) 0 n n (omega arith))
