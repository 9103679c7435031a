-- How many pieces a set of pieces of one size can have.
use Rattle.std.proofs.Common.{◌≡◌, ℕ, zero, suc, ◌+◌, ◌*◌, ◌<◌, ◌≤◌, List, [], ◌∷◌, length, get_or, refl, sym, arith}
use Rattle.std.proofs.lemmas.Cmp.{ranked}
use Rattle.std.proofs.lemmas.Map.Keys.{Less-from_sorted}
use Rattle.std.specs.declared.cmp.Ordering.TheVariants.{Less}
use Rattle.grid_base.specs.declared.piece.Piece.{Piece}
use Rattle.grid_base.specs.declared.piece.Piece.TheVariants.{Edge, Via}
use Rattle.grid_base.specs.declared.size.Size.{Size}
use Rattle.grid_base.specs.Numbers.{vertices, IsPiece}
use Rattle.tree_set.specs.Order.{piece_cmp, IsRising}
use Rattle.tree_set.specs.Routings.{ArePieces}

-- the place of a piece among all pieces of the size: edges by number, then vias by number
rank : Size → Piece → ℕ
rank s (Edge e) = e.0
rank s (Via v) = 2 * vertices s + v.0

rank-below : (s : Size) (p : Piece) → IsPiece s p → rank s p < 3 * vertices s
unfolding rank
rank-below s (Edge e) piece = omega (arith, piece.0)
rank-below s (Via v) piece = omega (arith, piece.0)

rank-rises : (s : Size) (p q : Piece) → IsPiece s p → piece_cmp p q ≡ Less → rank s p < rank s q
unfolding rank
rank-rises s (Edge a) (Edge b) piece less = ranked a.0 b.0 Less (sym less)
rank-rises s (Edge a) (Via b) piece less = omega (arith, piece.0)
rank-rises s (Via a) (Edge b) piece less = cc
rank-rises s (Via a) (Via b) piece less = let below : a.0 < b.0 = ranked a.0 b.0 Less (sym less) in omega arith

-- in a rising list each piece has at least its place as rank
rank-le : (s : Size) (ps : List Piece) (d : Piece) → IsRising ps → ArePieces s ps → (k : ℕ) → k < length ps → k ≤ rank s (get_or ps k d)
rank-le s ps d rising pieces zero within = omega arith
rank-le s ps d rising pieces (suc k) within =
    let before = rank-le s ps d rising pieces k (omega arith) in
    let rises = rank-rises s (get_or ps k d) (get_or ps (suc k) d) (pieces k d (omega arith)) (Less-from_sorted piece_cmp ps k (suc k) d rising (omega arith) within) in
    omega arith

last_below : (s : Size) (ps : List Piece) (d : Piece) (k : ℕ) → IsRising ps → ArePieces s ps → length ps ≡ suc k → length ps ≤ 3 * vertices s
last_below s ps d k rising pieces long =
    let high = rank-le s ps d rising pieces k (omega arith) in
    let low = rank-below s (get_or ps k d) (pieces k d (omega arith)) in
    omega arith

-- a set has at most three pieces per vertex
pub length-pieces : (s : Size) (ps : List Piece) → IsRising ps → ArePieces s ps → length ps ≤ 3 * vertices s
length-pieces s [] rising pieces = omega arith
length-pieces s (p ∷ rest) rising pieces = last_below s (p ∷ rest) p (length rest) rising pieces refl
