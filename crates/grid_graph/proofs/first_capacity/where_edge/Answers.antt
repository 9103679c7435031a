use Rattle.std.proofs.Common.{◌≡◌, ℕ, Bool, true, false, cond, refl, sym}
use Rattle.grid_graph.specs.Capacities.{is_edge}
use Rattle.grid_graph.proofs.Allowed.{is_edge-IsPiece}
use Rattle.grid_graph.proofs.first_capacity.where_edge.Goals as goal

none_there : (edge : Bool) (of_layer : ℕ) → (edge ≡ true → of_layer ≡ 0) → 0 ≡ cond edge of_layer 0
none_there true of_layer none = sym (none refl)
none_there false of_layer none = refl

pub returns-then-of_layer-eq0 : goal.returns-then-of_layer-eq0
returns-then-of_layer-eq0 c = none_there (is_edge c.args.size c.args.e.0) c.args.of_layer (λ _. c.if-of_layer-eq0.true)

pub returns-else-is_piece : goal.returns-else-is_piece
returns-else-is_piece c = none_there (is_edge c.args.size c.args.e.0) c.args.of_layer (λ edge.
    let piece = c.is_piece.ensures.1 (is_edge-IsPiece c.args.size c.args.e edge) in
    let not = c.if-is_piece.false in
    cc)
