-- The tiles of terminals, as terminals of a table.
use Rattle.std.proofs.Common.{ℕ, Some, ◌≡◌, List, length, All, sym, ap, ◌∙◌, subst}
use Rattle.grid_base.specs.declared.piece.Piece.{Piece}
use Rattle.grid_base.specs.declared.size.Size.{Size}
use Rattle.grid_base.specs.declared.vertex.Vertex.{Vertex}
use Rattle.grid_base.specs.Numbers.{IsVertex}
use Rattle.grid_graph.specs.Flat.{IsFlatOf}
use Rattle.grid_graph.specs.TilePieces.{tiles_of}
use Rattle.grid_graph.proofs.TileLists.{tiles_vertices, tiles_long}
use Rattle.grid_graph.proofs.TileSteps.{flat_tiles}
use Rattle.grid_base.proofs.SameNumbers.{size_is_numbers}
use Rattle.std.specs.Option.{ForSome}
use Rattle.std.proofs.lemmas.Option.{same_Some}
use Rattle.steiner_tables.specs.LoneRows.{IsLeadingRow}
use Rattle.terminal_distances.specs.declared.distance_rows.DistanceRows.{DistanceRows}
use Rattle.terminal_distances.specs.DistanceWords.{AreDistanceRows}

-- they are vertices of the flat grid, however its size is called
pub tiles_inside : (flat s named : Size) (terminals tiles : List Vertex) → IsFlatOf flat s → named ≡ flat
    → tiles ≡ tiles_of s terminals → All (λ (v : Vertex). IsVertex named v.0) tiles
tiles_inside flat s named terminals tiles is same made =
    subst (λ (x : Size). All (λ (v : Vertex). IsVertex x v.0) tiles) (sym same)
    (subst (λ (ts : List Vertex). All (λ (v : Vertex). IsVertex flat v.0) ts) (sym made)
    (tiles_vertices flat s terminals (flat_tiles flat s is)))

-- there are as many of them as terminals
pub tiles_count : (s : Size) (terminals tiles : List Vertex) → tiles ≡ tiles_of s terminals → length tiles ≡ length terminals
tiles_count s terminals tiles made = ap (λ (ts : List Vertex). length ts) made ∙ tiles_long s terminals

-- a row leads, however the size, the pieces and the terminals of its search are called
pub leading_as : (s named : Size) (pieces others : List (Piece × ℕ)) (terminals list : List Vertex) (low : ℕ → ℕ → ℕ) (limit : ℕ)
    (number : ℕ → ℕ → ℕ) (place : ℕ) → s ≡ named → pieces ≡ others → terminals ≡ list
    → IsLeadingRow s pieces terminals low limit number place → IsLeadingRow named others list low limit number place
leading_as s named pieces others terminals list low limit number place sized same listed row =
    subst (λ (x : Size). IsLeadingRow x others list low limit number place) sized
    (subst (λ (ps : List (Piece × ℕ)). IsLeadingRow s ps list low limit number place) same
    (subst (λ (ts : List Vertex). IsLeadingRow s pieces ts low limit number place) listed row))

-- a grid has one flat grid
pub one_flat : (flat s named : Size) → IsFlatOf flat s → IsFlatOf named s → flat ≡ named
one_flat flat s named is also =
    size_is_numbers flat named (is.cols_of ∙ sym also.cols_of) (is.rows_of ∙ sym also.rows_of) (is.single ∙ sym also.single)

-- room for distances of the flat grid, however its size is called
pub rows_kept : (flat s named : Size) (rows : DistanceRows) → IsFlatOf flat s → IsFlatOf named s → AreDistanceRows flat rows →
    ForSome (Some rows) (λ r. AreDistanceRows named r)
rows_kept flat s named rows is also are = λ r at.
    subst (λ (x : DistanceRows). AreDistanceRows named x) (same_Some rows r at)
    (subst (λ (x : Size). AreDistanceRows x rows) (one_flat flat s named is also) are)
