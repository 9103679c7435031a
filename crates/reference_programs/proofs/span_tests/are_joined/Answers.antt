use Rattle.std.proofs.Common.{◌≡◌, ℕ, List, map, ◌∙◌, ap, subst}
use Rattle.grid_base.specs.declared.piece.Piece.{Piece}
use Rattle.grid_base.specs.Walks.{InPieces, InVertices, JoinsList}
use Rattle.grid_base.proofs.Joined.{Joins-superset}
use Rattle.grid_graph.specs.Weighed.{IsAllowed}
use Rattle.grid_graph.proofs.Weighed.{allowed_of_piece}
use Rattle.reference_programs.proofs.span_tests.are_joined.Goals as goal

pub returns : goal.returns
returns c = λ yes.
    let s = c.args.size in
    let pieces = c.args.weights.now.pieces.items in
    let terminals = c.args.terminals.now in
    let bare : List Piece = map (λ x. x.0) pieces in
    let same : c.as_slice-2.result.now ≡ bare =
    c.as_slice-2.ensures.value ∙ c.in_ok-pieces.ensures ∙ ap (λ (xs : List (Piece × ℕ)). map (λ x. x.0) xs) c.pieces.ensures.pieces in
    let joined : JoinsList s bare terminals = subst (λ (ps : List Piece). JoinsList s ps terminals) same (c.in_ok-joins_by_merging.ensures.0 yes) in
    Joins-superset s (InPieces bare) (IsAllowed pieces) (InVertices terminals) (λ p at. allowed_of_piece pieces p at) joined
