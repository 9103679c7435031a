-- What `==` says of pieces.
use Rattle.std.proofs.Common.{◌≡◌, ℕ, ap, eq-eqb, eqb-true}
use Rattle.std.specs.Bool.{Decides}
use Rattle.grid_base.specs.contracts.piece.PiecePartialEq.TheImpl as equal
use Rattle.grid_base.specs.declared.piece.Piece.{Piece}
use Rattle.grid_base.specs.declared.piece.Piece.TheVariants.{Edge, Via}

abbrev number_of : Piece → ℕ
number_of (Edge e) = e.0
number_of (Via v) = v.0

pub piece_decides : (a b : Piece) → Decides (equal.ghosts.eq a b) (a ≡ b)
piece_decides (Edge a) (Edge b) = (λ h. ap (λ n. Edge (record { 0 = n })) (eqb-true a.0 b.0 h), λ same. eq-eqb a.0 b.0 (ap number_of same))
piece_decides (Edge a) (Via b) = (λ h. cc h, λ same. cc same)
piece_decides (Via a) (Edge b) = (λ h. cc h, λ same. cc same)
piece_decides (Via a) (Via b) = (λ h. ap (λ n. Via (record { 0 = n })) (eqb-true a.0 b.0 h), λ same. eq-eqb a.0 b.0 (ap number_of same))
