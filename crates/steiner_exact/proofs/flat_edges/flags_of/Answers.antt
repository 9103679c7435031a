use Rattle.std.proofs.Common.{◌∷◌, [], ◌++◌, Bool, List, sym, ap, ◌∙◌, zero-add}
use Rattle.std.proofs.lemmas.List.FromFn.{map-range_with_len_more}
use Rattle.steiner_exact.specs.FlatPieces.{has_edge}
use Rattle.steiner_exact.proofs.EdgeLists.{flag-same}
use Rattle.steiner_exact.proofs.flat_edges.flags_of.Goals as goal

pub loop-e-preserved : goal.loop-e-preserved
loop-e-preserved c =
    let s = c.args.size in
    let e = c.loop-e.e in
    c.in_ok-push.ensures.items
    ∙ ap (λ (flag : Bool). c.loop-e.flags.items ++ flag ∷ []) (flag-same s e c.is_piece.result c.is_piece.ensures)
    ∙ ap (λ (flags : List Bool). flags ++ has_edge s e ∷ []) c.loop-e.invariant
    ∙ sym (map-range_with_len_more (has_edge s) 0 e e (zero-add e))
