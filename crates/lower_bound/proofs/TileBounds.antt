-- Bounds by tiles: where vias cost nothing the least costs of a net are those of its tiles, at the least costs between tiles.
use Rattle.std.proofs.Common.{◌≡◌, ℕ, ◌+◌, List, [], ◌∷◌, All, map, refl, sym, ◌∙◌, ap, subst, arith}
use Rattle.std.specs.List.{sum, filter}
use Rattle.std.proofs.lemmas.Option.{slice_get_within, get_or_from_slice_get}
use Rattle.grid_base.specs.declared.piece.Piece.{Piece}
use Rattle.grid_base.specs.declared.piece.Piece.TheVariants.{Via}
use Rattle.grid_base.specs.declared.size.Size.{Size}
use Rattle.grid_base.specs.declared.vertex.Vertex.{Vertex}
use Rattle.grid_base.specs.declared.via.Via.{Via as ViaNumber}
use Rattle.grid_base.specs.Lists.{At}
use Rattle.grid_base.specs.Numbers.{IsVertex, IsPiece}
use Rattle.grid_base.specs.Walks.{InVertices}
use Rattle.grid_graph.specs.declared.grid.Grid.{Grid}
use Rattle.grid_graph.specs.declared.ground.Ground.{Ground}
use Rattle.grid_graph.specs.declared.ground.Ground.TheVariants.{Open, WithChoked}
use Rattle.grid_graph.specs.Flat.{tile_of, HaveSameTiles}
use Rattle.grid_graph.specs.Grids.{size_of, Allows}
use Rattle.grid_graph.specs.TilePieces.{tiles_of, HasFreeVias, AreLeastBetweenTiles}
use Rattle.grid_graph.specs.Weighed.{WeighsOnlyPieces}
use Rattle.grid_graph.proofs.TileLists.{tiles_at, terminal_at}
use Rattle.edge_prices.specs.PieceLists.{has_piece, all_pieces, pieces_with}
use Rattle.edge_prices.specs.Weights.{cost}
use Rattle.edge_prices.proofs.GroundPieces.{pieces_with-Weighs}
use Rattle.label_search.specs.Sets.{IsLeastWeight, IsEither}
use Rattle.shortest_paths.proofs.TileSets.{within_by_tiles, least_by_tiles, tiles_of_two, tiles_of_vertices}
use Rattle.lower_bound.specs.Costs.{costed}
use Rattle.lower_bound.specs.HalfWords.{IsHalf, IsSumOfHalves}
use Rattle.lower_bound.specs.Moats.{IsWithinDistance}
use Rattle.lower_bound.specs.NetBounds.{IsLeastToOther}

-- ---- what a net's ground costs, where the wirelength has no price

-- its vias cost nothing
pub vias_cost_nothing : (g : Grid) (width : ℕ) (over : Ground) (prices : List ℕ) → HasFreeVias (size_of g) (costed g width over prices 0)
vias_cost_nothing g width over prices v piece = (pieces_with-Weighs g over (λ p. cost g width prices p + 0) (Via v) 0).1 (via_of_ground g over v piece, omega arith)
  where
    via_of_ground : (g : Grid) (over : Ground) (v : ViaNumber) → IsPiece (size_of g) (Via v) → Allows g over (Via v)
    via_of_ground g Open v piece = piece
    via_of_ground g WithChoked v piece = piece

-- it has the pieces of the ground with the costs of the edges alone
same_costs : (f : Piece → ℕ) (ps : List Piece) → map {B = Piece × ℕ} (λ p. (p, f p + 0)) ps ≡ map {B = Piece × ℕ} (λ p. (p, f p)) ps
same_costs f [] = refl
same_costs f (p ∷ ps) =
    let rest = map {B = Piece × ℕ} (λ q. (q, f q + 0)) ps in
    let same : f p + 0 ≡ f p = omega arith in
    ap (λ n. (p, n) ∷ rest) same ∙ ap (λ xs. (p, f p) ∷ xs) (same_costs f ps)

pub costed_alone : (g : Grid) (width : ℕ) (over : Ground) (prices : List ℕ) → costed g width over prices 0 ≡ pieces_with g over (cost g width prices)
costed_alone g width over prices = same_costs (cost g width prices) (filter (has_piece g over) (all_pieces g))

-- ---- of few terminals

pub least_of_tiles : (flat s : Size) (pieces across : List (Piece × ℕ)) (terminals : List Vertex) (least : ℕ) → HaveSameTiles flat s → WeighsOnlyPieces s pieces → HasFreeVias s pieces → AreLeastBetweenTiles s pieces across →
    All (λ (v : Vertex). IsVertex s v.0) terminals → IsLeastWeight flat across (InVertices (tiles_of s terminals)) least → IsLeastWeight s pieces (InVertices terminals) least
least_of_tiles flat s pieces across terminals least is only free between vertices lightest =
    least_by_tiles flat s pieces across (InVertices terminals) (InVertices (tiles_of s terminals)) least is only free between (tiles_of_vertices s terminals vertices) lightest

-- ---- halves

vertex_at : (s : Size) (terminals : List Vertex) (place : ℕ) (v : Vertex) → All (λ (u : Vertex). IsVertex s u.0) terminals → At terminals place v → IsVertex s v.0
vertex_at s terminals place v vertices at =
    subst (λ (u : Vertex). IsVertex s u.0) (get_or_from_slice_get terminals place v v at) (vertices place v (slice_get_within terminals place v at))

-- the least cost of joining a tile to another one
pub to_other_by_tiles : (flat s : Size) (pieces across : List (Piece × ℕ)) (terminals : List Vertex) (place least : ℕ) → HaveSameTiles flat s → WeighsOnlyPieces s pieces → HasFreeVias s pieces → AreLeastBetweenTiles s pieces across →
    All (λ (v : Vertex). IsVertex s v.0) terminals → IsLeastToOther flat across (tiles_of s terminals) place least → IsLeastToOther s pieces terminals place least
to_other_by_tiles flat s pieces across terminals place least is only free between vertices lightest =
    let here = terminal_at s terminals place lightest.terminal lightest.stands in
    let near = terminal_at s terminals lightest.other lightest.near lightest.stands_near in
    let at_here = vertex_at s terminals place here.0 vertices here.1 in
    let at_near = vertex_at s terminals lightest.other near.0 vertices near.1 in
    record {
      terminal = here.0;
      stands = here.1;
      other = lightest.other;
      near = near.0;
      differs = lightest.differs;
      stands_near = near.1;
      joined = least_by_tiles flat s pieces across (IsEither here.0.0 near.0.0) (IsEither (tile_of s here.0.0) (tile_of s near.0.0)) least is only free between (tiles_of_two s here.0.0 near.0.0 at_here at_near)
          (subst (λ n. IsLeastWeight flat across (IsEither (tile_of s here.0.0) n) least) (sym near.2)
          (subst (λ n. IsLeastWeight flat across (IsEither n lightest.near.0) least) (sym here.2) lightest.joined));
      nearest = λ i u differs at. within_by_tiles flat s pieces across here.0.0 u.0 least is between
          (subst (λ n. IsWithinDistance flat across n (tile_of s u.0) least) (sym here.2)
          (lightest.nearest i (record { 0 = tile_of s u.0 }) differs (tiles_at s terminals i u at)));
    }

pub half_by_tiles : (flat s : Size) (pieces across : List (Piece × ℕ)) (terminals : List Vertex) (place half : ℕ) → HaveSameTiles flat s → WeighsOnlyPieces s pieces → HasFreeVias s pieces → AreLeastBetweenTiles s pieces across →
    All (λ (v : Vertex). IsVertex s v.0) terminals → IsHalf flat across (tiles_of s terminals) place half → IsHalf s pieces terminals place half
half_by_tiles flat s pieces across terminals place half is only free between vertices of =
    (of.0, to_other_by_tiles flat s pieces across terminals place of.0 is only free between vertices of.1, of.2)

pub sum_by_tiles : (flat s : Size) (pieces across : List (Piece × ℕ)) (terminals : List Vertex) (count total : ℕ) → HaveSameTiles flat s → WeighsOnlyPieces s pieces → HasFreeVias s pieces → AreLeastBetweenTiles s pieces across →
    All (λ (v : Vertex). IsVertex s v.0) terminals → IsSumOfHalves flat across (tiles_of s terminals) count total → IsSumOfHalves s pieces terminals count total
sum_by_tiles flat s pieces across terminals count total is only free between vertices sum = record {
  halves = sum.halves;
  each = sum.each;
  half = λ place h at. half_by_tiles flat s pieces across terminals place h is only free between vertices (sum.half place h at);
  sums = sum.sums;
}
