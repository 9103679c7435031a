-- A table of the flat grid that holds, with the layers to go, is a family of lower bounds of the grid.
use Rattle.std.proofs.Common.{ℕ, ◌≡◌, ◌+◌, ◌-◌, ◌*◌, ◌^◌, ◌<◌, ◌≤◌, max, List, length, get_or, All, refl, sym, ap, subst, ⊎_elim, arith}
use Rattle.std.proofs.lemmas.Nat.{mul-le}
use Rattle.std.proofs.lemmas.Option.{slice_get_within, get_or_from_slice_get}
use Rattle.grid_base.specs.declared.piece.Piece.{Piece}
use Rattle.grid_base.specs.declared.piece.Piece.TheVariants.{Edge, Via}
use Rattle.grid_base.specs.declared.size.Size.{Size}
use Rattle.grid_base.specs.declared.vertex.Vertex.{Vertex}
use Rattle.grid_base.specs.Numbers.{layer_of, IsVertex, Connects, IsPiece}
use Rattle.grid_graph.specs.declared.floors.Floors.{Floors}
use Rattle.grid_graph.specs.Flat.{tile_of, tile_edge_of, IsFlatOf, AreLeastOver}
use Rattle.grid_graph.specs.Floors.{AreFloors}
use Rattle.grid_graph.specs.Weighed.{Weighs}
use Rattle.label_search.specs.Stamped.{most, far}
use Rattle.steiner_tables.specs.Masks.{single, all_of}
use Rattle.steiner_tables.specs.Tables.{IsHoldingTable, IsFamily, IsPrunedTable, completed}
use Rattle.steiner_tables.proofs.Pruned.{completed_holds}
use Rattle.terminal_balls.specs.Balls.{Balls, AreBalls, beyond, shares}
use Rattle.terminal_balls.proofs.Shares.{shares-own, shares-steps, shares-parts}
use Rattle.steiner_exact.specs.Boxes.{none, extent_of, width_with}
use Rattle.steiner_exact.specs.FlatPieces.{edges_with}
use Rattle.grid_graph.specs.TilePieces.{tiles_of}
use Rattle.steiner_exact.specs.RowLows.{layers_with, layers_low, IsBeside, raised_by}
use Rattle.steiner_exact.proofs.BoxSides.{width-parts, width-single, width-more, width-less}
use Rattle.steiner_exact.proofs.BoxSteps.{fits}
use Rattle.steiner_exact.proofs.EdgeLists.{edges_with-lists}
use Rattle.grid_graph.proofs.TileLists.{tiles_at, tiles_long}
use Rattle.grid_graph.proofs.TileSteps.{tile_vertex, edge_connects, via_goes, flat_tiles}

-- there are as many sets of tiles as of terminals
pub tiles_all : (s : Size) (terminals : List Vertex) → all_of (tiles_of s terminals) ≡ all_of terminals
tiles_all s terminals = ap (λ n. 2 ^ n - 1) (tiles_long s terminals)

-- ---- what may stand beside a table

same_layers : (s : Size) (terminals : List Vertex) (mask a b : ℕ) → layer_of s b ≡ layer_of s a → layers_with s terminals mask b ≡ layers_with s terminals mask a
same_layers s terminals mask a b same = ap (width_with (extent_of (layer_of s) terminals mask (length terminals))) same

near_layers : (s : Size) (terminals : List Vertex) (mask a b : ℕ) → layer_of s b ≡ layer_of s a + 1 → (layers_with s terminals mask b ≤ layers_with s terminals mask a + 1) × (layers_with s terminals mask a ≤ layers_with s terminals mask b + 1)
near_layers s terminals mask a b up =
    let extent = extent_of (layer_of s) terminals mask (length terminals) in
    let is : width_with extent (layer_of s b) ≡ width_with extent (layer_of s a + 1) = ap (width_with extent) up in
    (omega (arith, is, width-more extent (layer_of s a)), omega (arith, is, width-less extent (layer_of s a)))

-- a layer more
climbs : (w v via k : ℕ) → w ≤ v + 1 → via ≤ k → w * via ≤ v * via + k
climbs w v via k near light = omega (arith, mul-le w via (v + 1) via near (omega arith), light)

layer_steps : (s : Size) (pieces : List (Piece × ℕ)) (terminals : List Vertex) (floors : Floors) (over : ℕ → ℕ) → AreFloors floors pieces → (mask : ℕ) (p : Piece) (k a b : ℕ) → Weighs pieces p k → Connects s p a b →
    layers_low s terminals floors.via mask b ≤ layers_low s terminals floors.via mask a + beyond s over p k
layer_steps s pieces terminals floors over floored mask (Edge e) k a b weighs connects =
    let same = same_layers s terminals mask a b (edge_connects s s e.0 a b (record { cols_of = refl; rows_of = refl }) connects).1 in
    let layers : layers_with s terminals mask b * floors.via ≡ layers_with s terminals mask a * floors.via = ap (λ n. n * floors.via) same in
    omega (arith, layers)
layer_steps s pieces terminals floors over floored mask (Via v) k a b weighs connects = ⊎_elim
    (λ goes. climbs (layers_with s terminals mask b) (layers_with s terminals mask a) floors.via k (near_layers s terminals mask a b (via_goes s (Via v) v.0 a b refl goes).1).0 (floored (Via v) k weighs))
    (λ goes. climbs (layers_with s terminals mask b) (layers_with s terminals mask a) floors.via k (near_layers s terminals mask b a (via_goes s (Via v) v.0 b a refl goes).1).1 (floored (Via v) k weighs))
    connects

-- each layer to go at the floor of vias
pub layers_beside : (s : Size) (pieces : List (Piece × ℕ)) (terminals : List Vertex) (floors : Floors) (over : ℕ → ℕ) → All (λ (v : Vertex). IsVertex s v.0) terminals → AreFloors floors pieces → IsBeside s pieces over terminals (layers_low s terminals floors.via)
layers_beside s pieces terminals floors over vertices floored = record {
  own = λ place v at.
      let inside = slice_get_within terminals place v at in
      let value : get_or terminals place none ≡ v = get_or_from_slice_get terminals place v none at in
      let vertex : IsVertex s v.0 = subst (λ (x : Vertex). IsVertex s x.0) value (vertices place none inside) in
      let nowhere : layers_low s terminals floors.via (single place) v.0 ≡ 0 * floors.via =
      ap (λ n. n * floors.via) (width-single (layer_of s) terminals place (length terminals) (layer_of s v.0) inside (ap (λ (x : Vertex). layer_of s x.0) value) (fits s v.0 vertex).2) in
      omega (arith, nowhere);
  steps = layer_steps s pieces terminals floors over floored;
  splits = λ one other mask v parts.
      let near = width-parts (layer_of s) terminals one other mask (length terminals) (layer_of s v) parts.shared in
      omega (arith, mul-le (layers_with s terminals mask v) floors.via (layers_with s terminals one v + layers_with s terminals other v) floors.via near (omega arith));
}

-- what balls have
shares_beside : (s : Size) (pieces : List (Piece × ℕ)) (over : ℕ → ℕ) (terminals : List Vertex) (balls : Balls) → AreBalls s pieces over terminals balls → IsBeside s pieces over terminals (shares balls)
shares_beside s pieces over terminals balls are = record {
  own = shares-own s pieces over terminals balls are;
  steps = shares-steps s pieces over terminals balls are;
  splits = λ one other mask v parts. omega (arith, shares-parts balls one other mask v parts);
}

-- the greater of two
greater_beside : (s : Size) (pieces : List (Piece × ℕ)) (over : ℕ → ℕ) (terminals : List Vertex) (f g : ℕ → ℕ → ℕ) → IsBeside s pieces over terminals f → IsBeside s pieces over terminals g → IsBeside s pieces over terminals (λ mask v. max (f mask v) (g mask v))
greater_beside s pieces over terminals f g is and = record {
  own = λ place v at. omega (arith, is.own place v at, and.own place v at);
  steps = λ mask p k a b weighs connects. omega (arith, is.steps mask p k a b weighs connects, and.steps mask p k a b weighs connects);
  splits = λ one other mask v parts. omega (arith, is.splits one other mask v parts, and.splits one other mask v parts);
}

-- what balls have, where that is more than the layers to go
pub balls_beside : (s : Size) (pieces : List (Piece × ℕ)) (over : ℕ → ℕ) (terminals : List Vertex) (via : ℕ) (balls : Balls) → IsBeside s pieces over terminals (layers_low s terminals via) → AreBalls s pieces over terminals balls →
    IsBeside s pieces over terminals (λ mask v. max (layers_low s terminals via mask v) (shares balls mask v))
balls_beside s pieces over terminals via balls layered are =
    greater_beside s pieces over terminals (layers_low s terminals via) (shares balls) layered (shares_beside s pieces over terminals balls are)

-- ---- the family

-- a table of tiles, under pieces that weigh no less than the tile edges under them
pub record IsOverTable (flat s : Size) (pieces : List (Piece × ℕ)) (terminals : List Vertex) (over : ℕ → ℕ) (across : ℕ → ℕ → ℕ) : Type 0 where
  pub flat_of : IsFlatOf flat s
  pub table : IsHoldingTable flat (edges_with flat over) (tiles_of s terminals) (all_of terminals - 1) across
  pub least : AreLeastOver s pieces over

step_over : (flat s : Size) (pieces : List (Piece × ℕ)) (terminals : List Vertex) (over : ℕ → ℕ) (across beside : ℕ → ℕ → ℕ) → IsOverTable flat s pieces terminals over across → IsBeside s pieces over terminals beside → (mask : ℕ) → 0 < mask → mask ≤ all_of terminals - 1 →
    (p : Piece) (k a b : ℕ) → Weighs pieces p k → Connects s p a b → raised_by s across beside mask b ≤ raised_by s across beside mask a + k
step_over flat s pieces terminals over across beside is stands mask some below (Edge e) k a b weighs connects =
    let found = edge_connects flat s e.0 a b (flat_tiles flat s is.flat_of) connects in
    let tile_edge = tile_edge_of s e.0 in
    let piece : IsPiece flat (Edge (record { 0 = tile_edge })) = ⊎_elim (λ goes. goes.0) (λ goes. goes.0) found.0 in
    let less = is.table.steps mask some below (Edge (record { 0 = tile_edge })) (over tile_edge) (tile_of s a) (tile_of s b) (edges_with-lists flat over tile_edge piece) found.0 in
    omega (arith, less, is.least.below e k weighs, stands.steps mask (Edge e) k a b weighs connects)
step_over flat s pieces terminals over across beside is stands mask some below (Via v) k a b weighs connects =
    let same : across mask (tile_of s b) ≡ across mask (tile_of s a) = ⊎_elim
    (λ goes. ap (across mask) (via_goes s (Via v) v.0 a b refl goes).0)
    (λ goes. ap (across mask) (sym (via_goes s (Via v) v.0 b a refl goes).0))
    connects in
    omega (arith, same, stands.steps mask (Via v) k a b weighs connects)

pub over_family : (flat s : Size) (pieces : List (Piece × ℕ)) (terminals : List Vertex) (over : ℕ → ℕ) (across beside : ℕ → ℕ → ℕ) → IsOverTable flat s pieces terminals over across → IsBeside s pieces over terminals beside →
    IsFamily s pieces terminals (raised_by s across beside)
over_family flat s pieces terminals over across beside is stands = record {
  own = λ place v at below. omega (arith, is.table.own place (record { 0 = tile_of s v.0 }) (tiles_at s terminals place v at) below, stands.own place v at);
  steps = λ mask some below p k a b weighs connects. step_over flat s pieces terminals over across beside is stands mask some below p k a b weighs connects;
  splits = λ one other mask v parts below vertex.
      omega (arith, is.table.splits one other mask (tile_of s v) parts below (tile_vertex flat s v (flat_tiles flat s is.flat_of)), stands.splits one other mask v parts);
}

-- a table of tiles that was pruned is such a table when completed
pub pruned_table : (flat s : Size) (pieces : List (Piece × ℕ)) (terminals : List Vertex) (over : ℕ → ℕ) (low : ℕ → ℕ → ℕ) (limit : ℕ) (number : ℕ → ℕ → ℕ) → 0 < all_of terminals → limit ≤ most → IsFamily flat (edges_with flat over) (tiles_of s terminals) low →
    IsPrunedTable flat (edges_with flat over) (tiles_of s terminals) (all_of terminals - 1) low limit far number →
    IsHoldingTable flat (edges_with flat over) (tiles_of s terminals) (all_of terminals - 1) (completed (tiles_of s terminals) low limit far number)
pruned_table flat s pieces terminals over low limit number some within family table =
    completed_holds flat (edges_with flat over) (tiles_of s terminals) (all_of terminals - 1) low limit far number
    (record { family = family; below = omega (arith, some, tiles_all s terminals); limit_below = omega (arith, within); pruned = table })
