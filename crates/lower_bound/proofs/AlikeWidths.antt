-- Nets of two widths that use as much of each edge pay the same.
use Rattle.std.proofs.Common.{◌≡◌, ℕ, ◌+◌, ◌*◌, ◌<◌, ◌≤◌, List, [], ◌∷◌, All, map, true, cond, slice_index, refl, ◌∙◌, ap, subst, arith}
use Rattle.std.specs.List.{filter}
use Rattle.std.proofs.lemmas.Bool.{ltb-true, and_parts}
use Rattle.std.proofs.lemmas.Nat.{mul-le}
use Rattle.std.proofs.lemmas.List.Elements.{All-head, All-tail, All-weaker, filter_passes}
use Rattle.grid_base.specs.declared.piece.Piece.{Piece}
use Rattle.grid_base.specs.declared.piece.Piece.TheVariants.{Edge, Via}
use Rattle.grid_base.specs.declared.size.Size.{Size}
use Rattle.grid_base.specs.Numbers.{cols, rows, layers, vertices}
use Rattle.grid_graph.specs.declared.grid.Grid.{Grid}
use Rattle.grid_graph.specs.declared.ground.Ground.{Ground}
use Rattle.grid_graph.specs.Grids.{size_of, edge_numbers, IsNetWidth}
use Rattle.grid_graph.specs.TilePieces.{AreLeastBetweenTiles}
use Rattle.edge_prices.specs.PieceLists.{IsWeightList, has_piece, all_pieces}
use Rattle.edge_prices.specs.Weights.{cost, is_open}
use Rattle.lower_bound.specs.ClassWords.{AreClassCosts, UseAsMuch}
use Rattle.lower_bound.specs.Costs.{costed}

cost_alike : (g : Grid) (one other : ℕ) (over : Ground) (prices : List ℕ) → UseAsMuch g one other → (p : Piece) → has_piece g over p ≡ true
    → cost g one prices p + 0 ≡ cost g other prices p + 0
cost_alike g one other over prices alike (Edge e) has =
    ap (λ n. cond (is_open g e.0) (slice_index prices e.0 * n) 0 + 0) (alike e.0 (ltb-true e.0 (edge_numbers g) (and_parts _ _ has).0))
cost_alike g one other over prices alike (Via v) has = refl

map_alike : (f h : Piece → ℕ) (ps : List Piece) → All (λ p. f p ≡ h p) ps
    → map {B = Piece × ℕ} (λ p. (p, f p)) ps ≡ map {B = Piece × ℕ} (λ p. (p, h p)) ps
map_alike f h [] same = refl
map_alike f h (p ∷ ps) same =
    let rest = map {B = Piece × ℕ} (λ q. (q, f q)) ps in
    ap (λ n. (p, n) ∷ rest) (All-head (λ q. f q ≡ h q) p ps same) ∙ ap (λ xs. (p, h p) ∷ xs) (map_alike f h ps (All-tail (λ q. f q ≡ h q) p ps same))

costed_alike : (g : Grid) (one other : ℕ) (over : Ground) (prices : List ℕ) → UseAsMuch g one other
    → costed g one over prices 0 ≡ costed g other over prices 0
costed_alike g one other over prices alike =
    let pieces = filter (has_piece g over) (all_pieces g) in
    map_alike (λ p. cost g one prices p + 0) (λ p. cost g other prices p + 0) pieces
    (All-weaker (λ p. has_piece g over p ≡ true) (λ p. cost g one prices p + 0 ≡ cost g other prices p + 0)
    (cost_alike g one other over prices alike) pieces (filter_passes (has_piece g over) (all_pieces g)))

-- the costs of a class are those of the other width
pub class_alike : (g : Grid) (one other : ℕ) (over : Ground) (prices : List ℕ) (flat : Size) (across : List (Piece × ℕ)) → IsNetWidth g other
    → UseAsMuch g one other → AreClassCosts g one over prices flat across → AreClassCosts g other over prices flat across
class_alike g one other over prices flat across wide alike is =
    let same = costed_alike g one other over prices alike in
    record {
      flat_of = is.flat_of;
      wide = wide;
      priced = is.priced;
      listed = subst (IsWeightList (size_of g)) same is.listed;
      between = subst (λ (xs : List (Piece × ℕ)). AreLeastBetweenTiles (size_of g) xs across) same is.between;
    }

-- the first edge of a layer has a number
pub edge_in_layer : (s : Size) (layer e n : ℕ) → n ≡ cols s * rows s → e ≡ 2 * (layer * n) → layer < layers s → e < 2 * vertices s
edge_in_layer s layer e n per_layer first below =
    let size = cols s * rows s in
    let some : 0 < size = mul-le 1 1 (cols s) (rows s) s.within.has_col s.within.has_row in
    let room : (layer + 1) * size ≤ layers s * size = mul-le (layer + 1) size (layers s) size (omega (arith, below)) (omega arith) in
    let start : layer * n ≡ size * layer = ap (λ k. layer * k) per_layer ∙ omega arith in
    omega (arith, first, start, room, some)
