-- Bounds of nets by the costs between tiles of their class.
use Rattle.std.proofs.Common.{◌≡◌, ◌↔◌, ℕ, ◌+◌, ◌≤◌, List, [], ◌∷◌, All, length, get_or, slice_index, refl, sym, ap, subst, ◌∙◌, add-zero, arith}
use Rattle.std.proofs.lemmas.List.{length-map}
use Rattle.std.proofs.lemmas.List.Elements.{All-contains, Contains-get_or}
use Rattle.grid_base.specs.declared.piece.Piece.{Piece}
use Rattle.grid_base.specs.declared.piece.Piece.TheVariants.{Via}
use Rattle.grid_base.specs.declared.size.Size.{Size}
use Rattle.grid_base.specs.declared.vertex.Vertex.{Vertex}
use Rattle.grid_base.specs.declared.via.Via.{Via as ViaNumber}
use Rattle.grid_base.specs.Numbers.{IsVertex, IsPiece}
use Rattle.grid_base.specs.Walks.{Joins, InVertices}
use Rattle.grid_graph.specs.declared.grid.Grid.{Grid}
use Rattle.grid_graph.specs.declared.ground.Ground.{Ground}
use Rattle.grid_graph.specs.declared.ground.Ground.TheVariants.{Open, WithChoked}
use Rattle.grid_graph.specs.Flat.{IsFlatOf}
use Rattle.grid_graph.specs.Grids.{size_of, IsNetWidth, Allows}
use Rattle.grid_graph.specs.TilePieces.{tiles_of, HasFreeVias, AreLeastBetweenTiles}
use Rattle.grid_graph.specs.Weighed.{IsAllowed}
use Rattle.grid_graph.proofs.TileLists.{tiles_vertices, tiles_long}
use Rattle.edge_prices.specs.PieceLists.{IsWeightList, pieces_with}
use Rattle.edge_prices.specs.Weights.{AreEdgePrices, cost}
use Rattle.edge_prices.proofs.GroundPieces.{pieces_with-Weighs}
use Rattle.label_search.specs.Sets.{IsLeastWeight}
use Rattle.shortest_paths.proofs.TileSets.{tiles_joined, tiles_of_vertices}
use Rattle.least_weights.proofs.FewVertices.{least_alike}
use Rattle.lower_bound.specs.declared.class_costs.ClassCosts.{ClassCosts}
use Rattle.lower_bound.specs.ClassWords.{AreClassCosts, IsCurrentClass, KeepsClass, class_pieces}
use Rattle.lower_bound.specs.Costs.{costed}
use Rattle.lower_bound.specs.HalfWords.{IsSumOfHalves}
use Rattle.lower_bound.specs.Raised.{raised}
use Rattle.lower_bound.specs.Representatives.{represented, AreJoinedFreely}
use Rattle.lower_bound.specs.TileCosts.{costs_between}
use Rattle.lower_bound.proofs.CostLists.{same_tiles}
use Rattle.lower_bound.proofs.Costed.{raised_costs}
use Rattle.lower_bound.proofs.FreeJoins.{least_freely, joined_freely, represented_freely, represented_vertices, sum_freely}
use Rattle.lower_bound.proofs.TileBounds.{least_of_tiles, sum_by_tiles}

-- ---- what a class pays

raised_none : (xs : List (Piece × ℕ)) → raised xs 0 ≡ xs
raised_none [] = refl
raised_none (x ∷ xs) = let same : (x.0, x.1 + 0) ≡ x = ap (λ n. (x.0, n)) (add-zero x.1) in rw (same, raised_none xs) refl

-- a piece alone costs nothing
pub costed_alone : (g : Grid) (width : ℕ) (over : Ground) (prices : List ℕ) → pieces_with g over (cost g width prices) ≡ costed g width over prices 0
costed_alone g width over prices = sym (raised_none (pieces_with g over (cost g width prices))) ∙ raised_costs g width over prices 0

allows_via : (g : Grid) (over : Ground) (v : ViaNumber) → IsPiece (size_of g) (Via v) → Allows g over (Via v)
allows_via g Open v piece = piece
allows_via g WithChoked v piece = piece

pub vias_free : (g : Grid) (width : ℕ) (over : Ground) (prices : List ℕ) → HasFreeVias (size_of g) (costed g width over prices 0)
vias_free g width over prices v piece = (pieces_with-Weighs g over (λ p. cost g width prices p + 0) (Via v) 0).1 (allows_via g over v piece, refl)

pub class_costs : (g : Grid) (width : ℕ) (over : Ground) (prices : List ℕ) (flat s t : Size) (pieces across : List (Piece × ℕ)) → IsFlatOf flat s → s ≡ size_of g → IsNetWidth g width → AreEdgePrices g prices → t ≡ size_of g
    → pieces ≡ pieces_with g over (cost g width prices) → IsWeightList t pieces → AreLeastBetweenTiles s pieces across → AreClassCosts g width over prices flat across
class_costs g width over prices flat s t pieces across is own wide priced size list listed between =
    let same = list ∙ costed_alone g width over prices in
    record {
      flat_of = subst (IsFlatOf flat) own is;
      wide = wide;
      priced = priced;
      listed = subst (IsWeightList (size_of g)) same (subst (λ (x : Size). IsWeightList x pieces) size listed);
      between = subst (λ (xs : List (Piece × ℕ)). AreLeastBetweenTiles (size_of g) xs across) same (subst (λ (x : Size). AreLeastBetweenTiles x pieces across) own between);
    }

-- ---- the tiles of a net, and those that stand for them

-- tiles that stand for those of terminals, one for each
pub record StandFor (x : ClassCosts) (terminals tiles : List Vertex) : Type 0 where
  pub vertices : All (λ (v : Vertex). IsVertex x.costs.size v.0) tiles
  pub long : length tiles ≡ length terminals
  pub joined : Joins (size_of x.grid.now) (IsAllowed (class_pieces x)) (InVertices terminals)
      → Joins x.costs.size (IsAllowed (costs_between x.costs.costs.items)) (InVertices tiles)
  pub sum : (total : ℕ) → IsSumOfHalves x.costs.size (costs_between x.costs.costs.items) tiles (length tiles) total
      → IsSumOfHalves (size_of x.grid.now) (class_pieces x) terminals (length terminals) total

-- the same tiles, each once
pub record StandOnce (x : ClassCosts) (terminals tiles : List Vertex) : Type 0 where
  pub vertices : All (λ (v : Vertex). IsVertex x.costs.size v.0) tiles
  pub few : length tiles ≤ length terminals
  pub joined : Joins (size_of x.grid.now) (IsAllowed (class_pieces x)) (InVertices terminals)
      → Joins x.costs.size (IsAllowed (costs_between x.costs.costs.items)) (InVertices tiles)
  pub least : (least : ℕ) → IsLeastWeight x.costs.size (costs_between x.costs.costs.items) (InVertices tiles) least
      → IsLeastWeight (size_of x.grid.now) (class_pieces x) (InVertices terminals) least

module _ (x : ClassCosts) (now : IsCurrentClass x) (terminals : List Vertex)
    (vertices : All (λ (v : Vertex). IsVertex (size_of x.grid.now) v.0) terminals) where
  their_tiles : All (λ (v : Vertex). IsVertex x.costs.size v.0) (tiles_of (size_of x.grid.now) terminals)
  their_tiles = tiles_vertices x.costs.size (size_of x.grid.now) terminals (same_tiles x.costs.size (size_of x.grid.now) now.costs.flat_of)

  freely : AreJoinedFreely x.costs.size (costs_between x.costs.costs.items) (InVertices (tiles_of (size_of x.grid.now) terminals))
      (InVertices (represented x.representatives.of.parents.items (tiles_of (size_of x.grid.now) terminals)))
  freely = represented_freely x.costs.size (costs_between x.costs.costs.items) x.representatives.of.parents.items
      (tiles_of (size_of x.grid.now) terminals) now.representatives their_tiles

  stand_joined : Joins (size_of x.grid.now) (IsAllowed (class_pieces x)) (InVertices terminals)
      → Joins x.costs.size (IsAllowed (costs_between x.costs.costs.items))
      (InVertices (represented x.representatives.of.parents.items (tiles_of (size_of x.grid.now) terminals)))
  stand_joined joins =
      let s = size_of x.grid.now in
      let across = costs_between x.costs.costs.items in
      let tiles = tiles_of s terminals in
      joined_freely x.costs.size across (InVertices tiles) (InVertices (represented x.representatives.of.parents.items tiles)) freely
      (tiles_joined x.costs.size s (class_pieces x) across (InVertices terminals) (InVertices tiles)
      (same_tiles x.costs.size s now.costs.flat_of) now.costs.between (tiles_of_vertices s terminals vertices) joins)

  few_by_class : (found : List Vertex) (least : ℕ)
      → ((v : ℕ) → InVertices found v ↔ InVertices (represented x.representatives.of.parents.items (tiles_of (size_of x.grid.now) terminals)) v)
      → IsLeastWeight x.costs.size (costs_between x.costs.costs.items) (InVertices found) least
      → IsLeastWeight (size_of x.grid.now) (class_pieces x) (InVertices terminals) least
  few_by_class found least same lightest =
      let s = size_of x.grid.now in
      let across = costs_between x.costs.costs.items in
      let stand = InVertices (represented x.representatives.of.parents.items (tiles_of s terminals)) in
      let on_read = least_alike x.costs.size across stand (InVertices found) least (λ v. ((same v).1, (same v).0)) lightest in
      least_of_tiles x.costs.size s (class_pieces x) across terminals least (same_tiles x.costs.size s now.costs.flat_of)
      now.costs.listed.inside (vias_free x.grid.now x.width x.ground x.prices.now) now.costs.between vertices
      (least_freely x.costs.size across (InVertices (tiles_of s terminals)) stand least freely on_read)

  stand_long : length (represented x.representatives.of.parents.items (tiles_of (size_of x.grid.now) terminals)) ≡ length terminals
  stand_long =
      length-map (tiles_of (size_of x.grid.now) terminals) (λ (v : Vertex). record { 0 = slice_index x.representatives.of.parents.items v.0 })
      ∙ tiles_long (size_of x.grid.now) terminals

  stand_sum : (total : ℕ)
      → IsSumOfHalves x.costs.size (costs_between x.costs.costs.items)
      (represented x.representatives.of.parents.items (tiles_of (size_of x.grid.now) terminals))
      (length (represented x.representatives.of.parents.items (tiles_of (size_of x.grid.now) terminals))) total
      → IsSumOfHalves (size_of x.grid.now) (class_pieces x) terminals (length terminals) total
  stand_sum total sums =
      let s = size_of x.grid.now in
      let across = costs_between x.costs.costs.items in
      let of = x.representatives.of.parents.items in
      let tiles = tiles_of s terminals in
      sum_by_tiles x.costs.size s (class_pieces x) across terminals (length terminals) total (same_tiles x.costs.size s now.costs.flat_of)
      now.costs.listed.inside (vias_free x.grid.now x.width x.ground x.prices.now) now.costs.between vertices
      (sum_freely x.costs.size across of tiles (length terminals) total now.representatives their_tiles
      (subst (λ n. IsSumOfHalves x.costs.size across (represented of tiles) n total) stand_long sums))

  pub stand_for : (read tiles : List Vertex) → read ≡ represented x.representatives.of.parents.items (tiles_of (size_of x.grid.now) terminals)
      → tiles ≡ read → StandFor x terminals tiles
  stand_for read tiles is same = subst (StandFor x terminals) (sym (same ∙ is)) (record {
    vertices = represented_vertices x.costs.size (costs_between x.costs.costs.items) x.representatives.of.parents.items
        (tiles_of (size_of x.grid.now) terminals) now.representatives their_tiles;
    long = stand_long;
    joined = stand_joined;
    sum = stand_sum;
  })

  pub stand_once : (read found tiles : List Vertex)
      → read ≡ represented x.representatives.of.parents.items (tiles_of (size_of x.grid.now) terminals)
      → ((v : ℕ) → InVertices found v ↔ InVertices read v) → length found ≤ length read → tiles ≡ found → StandOnce x terminals tiles
  stand_once read found tiles is alike fewer same =
      let all = stand_for read read is refl in
      subst (StandOnce x terminals) (sym same) (record {
        vertices = λ k d low.
            let t = get_or found k d in
            All-contains (λ (v : Vertex). IsVertex x.costs.size v.0) read t all.vertices ((alike t.0).0 (Contains-get_or found k d low));
        few = omega (arith, fewer, all.long);
        joined = λ joins a b at_a at_b. all.joined joins a b ((alike a).0 at_a) ((alike b).0 at_b);
        least = λ least. few_by_class found least
            (subst (λ (ts : List Vertex). (v : ℕ) → InVertices found v ↔ InVertices ts v) is alike);
      })

-- ---- where nothing but what is kept changed

pub kept_pieces : (old new : ClassCosts) → KeepsClass old new → class_pieces new ≡ class_pieces old
kept_pieces old new kept = rw (kept.grid, kept.width, kept.ground, kept.prices) refl

pub kept_joins : (old new : ClassCosts) (T : ℕ → Type 0) → KeepsClass old new → Joins (size_of old.grid.now) (IsAllowed (class_pieces old)) T → Joins (size_of new.grid.now) (IsAllowed (class_pieces new)) T
kept_joins old new T kept joins =
    subst (λ (g : Grid). Joins (size_of g) (IsAllowed (class_pieces new)) T) (sym kept.grid) (subst (λ (xs : List (Piece × ℕ)). Joins (size_of old.grid.now) (IsAllowed xs) T) (sym (kept_pieces old new kept)) joins)

pub kept_sum : (old new : ClassCosts) (terminals : List Vertex) (count total : ℕ) → KeepsClass old new → IsSumOfHalves (size_of new.grid.now) (class_pieces new) terminals count total → IsSumOfHalves (size_of old.grid.now) (class_pieces old) terminals count total
kept_sum old new terminals count total kept sums =
    subst (λ (g : Grid). IsSumOfHalves (size_of g) (class_pieces old) terminals count total) kept.grid (subst (λ (xs : List (Piece × ℕ)). IsSumOfHalves (size_of new.grid.now) xs terminals count total) (kept_pieces old new kept) sums)
