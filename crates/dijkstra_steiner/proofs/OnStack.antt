-- Vertices of a stack, by their mask and the vertex of the flat grid under them.
use Rattle.std.proofs.Common.{ℕ, ◌≡◌, ◌+◌, ◌*◌, ◌-◌, ◌/◌, ◌%◌, ◌<◌, ◌≤◌, List, ltb, cond, true, sym, ◌∙◌, ap, subst, arith}
use Rattle.std.proofs.Math.Nat.{div-div-eq-div-mul, div-add-mod, mod-lt}
use Rattle.std.proofs.lemmas.Nat.{mul-le, div-mul-add, mod-mul-add}
use Rattle.grid_base.specs.declared.place.Place.{Place}
use Rattle.grid_base.specs.declared.size.Size.{Size}
use Rattle.grid_base.specs.declared.vertex.Vertex.{Vertex}
use Rattle.grid_base.specs.Numbers.{cols, rows, layers, vertices, vertex_number, place_at, col_of, row_of, layer_of, IsVertex}
use Rattle.grid_base.specs.Standing.{StandsAt}
use Rattle.std.proofs.lemmas.Bool.{lt-ltb}
use Rattle.grid_base.proofs.Places.{place_at-inside, place_at-number, vertex_number-place}
use Rattle.grid_graph.specs.Flat.{tiles, tile_of, HaveSameTiles}
use Rattle.grid_graph.proofs.TileSteps.{some_tiles, ground_place}
use Rattle.steiner_tables.specs.Masks.{rooted_masks, all_of}
use Rattle.steiner_tables.specs.Tables.{rest_of}
use Rattle.dijkstra_steiner.specs.Stacks.{IsStackOf, on_stack, mask_of, rest_on}

-- the layers have the tiles of the flat grid
pub stack_tiles : (stack flat : Size) → IsStackOf stack flat → tiles stack ≡ tiles flat
stack_tiles stack flat is = ap (λ n. n * rows stack) is.cols_of ∙ ap (λ n. cols flat * n) is.rows_of

-- which has as many vertices
pub flat_vertices : (stack flat : Size) → IsStackOf stack flat → vertices flat ≡ tiles flat
flat_vertices stack flat is = omega (arith, ap (λ n. tiles flat * n) is.single)

pub stack_vertices : (stack flat : Size) → IsStackOf stack flat → vertices stack ≡ tiles flat * rooted_masks
stack_vertices stack flat is =
    ap (λ n. n * layers stack) (stack_tiles stack flat is) ∙ ap (λ n. tiles flat * n) is.masks

-- a layer is the quotient by the tiles
layer_number : (stack flat : Size) (w : ℕ) → IsStackOf stack flat → layer_of stack w ≡ w / tiles flat
layer_number stack flat w is =
    div-div-eq-div-mul w (cols stack) (rows stack) ∙ ap (λ n. w / n) (stack_tiles stack flat is)

-- a mask at a vertex of the flat grid is a vertex of the stack
pub vertex_on : (stack flat : Size) (mask v : ℕ) → IsStackOf stack flat → 0 < mask → mask ≤ rooted_masks → IsVertex flat v
    → IsVertex stack (on_stack flat mask v)
vertex_on stack flat mask v is some room vertex =
    omega (
      arith,
      vertex,
      some,
      flat_vertices stack flat is,
      stack_vertices stack flat is,
      mul-le (mask - 1 + 1) (tiles flat) rooted_masks (tiles flat) (omega (arith, some, room)) (omega arith),
    )

-- with that mask
pub mask_on : (stack flat : Size) (mask v : ℕ) → IsStackOf stack flat → 0 < mask → mask ≤ rooted_masks → IsVertex flat v
    → mask_of stack (on_stack flat mask v) ≡ mask
mask_on stack flat mask v is some room vertex =
    omega (
      arith,
      some,
      layer_number stack flat (on_stack flat mask v) is,
      div-mul-add (mask - 1) (tiles flat) v (omega (arith, vertex, flat_vertices stack flat is)),
    )

-- over that vertex
pub under_on : (stack flat : Size) (mask v : ℕ) → IsStackOf stack flat → 0 < mask → mask ≤ rooted_masks → IsVertex flat v
    → tile_of stack (on_stack flat mask v) ≡ v
under_on stack flat mask v is some room vertex =
    ap (λ n. on_stack flat mask v % n) (stack_tiles stack flat is)
    ∙ mod-mul-add (mask - 1) (tiles flat) v (omega (arith, vertex, flat_vertices stack flat is))

-- under a vertex of the stack lies one of the flat grid
pub under_vertex : (stack flat : Size) (w : ℕ) → IsStackOf stack flat → IsVertex stack w → IsVertex flat (tile_of stack w)
under_vertex stack flat w is vertex =
    omega (arith, mod-lt w (some_tiles stack), stack_tiles stack flat is, flat_vertices stack flat is)

-- there are no more masks than the stack has layers
pub mask_room : (stack flat : Size) (w : ℕ) → IsStackOf stack flat → IsVertex stack w → mask_of stack w ≤ rooted_masks
mask_room stack flat w is vertex = omega (arith, (place_at-inside stack w vertex).2, is.masks)

-- a vertex of the stack is its mask at the vertex under it
pub on_of : (stack flat : Size) (w : ℕ) → IsStackOf stack flat → IsVertex stack w
    → on_stack flat (mask_of stack w) (tile_of stack w) ≡ w
on_of stack flat w is vertex =
    let below : mask_of stack w - 1 ≡ w / tiles flat = omega (arith, layer_number stack flat w is) in
    ap (λ n. n * tiles flat + tile_of stack w) below
    ∙ ap (λ n. w / tiles flat * tiles flat + w % n) (stack_tiles stack flat is)
    ∙ omega (arith, div-add-mod w (tiles flat))

-- what is left to go from a mask that isn't all terminals
pub rest_at : (stack flat : Size) (terminals : List Vertex) (low : ℕ → ℕ → ℕ) (mask v : ℕ) → IsStackOf stack flat → 0 < mask
    → mask ≤ rooted_masks → IsVertex flat v → mask < all_of terminals
    → rest_on stack terminals low (on_stack flat mask v) ≡ rest_of terminals low mask v
rest_at stack flat terminals low mask v is some room vertex less =
    let w = on_stack flat mask v in
    let test : ltb mask (all_of terminals) ≡ true = lt-ltb mask (all_of terminals) less in
    ap (λ m. cond (ltb m (all_of terminals)) (rest_of terminals low m (tile_of stack w)) 0)
    (mask_on stack flat mask v is some room vertex)
    ∙ ap (λ b. cond b (rest_of terminals low mask (tile_of stack w)) 0) test
    ∙ ap (rest_of terminals low mask) (under_on stack flat mask v is some room vertex)

-- two masks at two vertices of the flat grid stand at one vertex of the stack only where they are the same
pub same_on : (stack flat : Size) (one u other v : ℕ) → IsStackOf stack flat → 0 < one → one ≤ rooted_masks → IsVertex flat u
    → 0 < other → other ≤ rooted_masks → IsVertex flat v → on_stack flat one u ≡ on_stack flat other v
    → (one ≡ other) × (u ≡ v)
same_on stack flat one u other v is some room vertex some_other room_other vertex_other same = (
  sym (mask_on stack flat one u is some room vertex) ∙ ap (mask_of stack) same
      ∙ mask_on stack flat other v is some_other room_other vertex_other,
  sym (under_on stack flat one u is some room vertex) ∙ ap (tile_of stack) same
      ∙ under_on stack flat other v is some_other room_other vertex_other,
)

-- a place of the stack is that of a vertex of the flat grid, and of a layer
stack_place : (stack flat : Size) (mask v : ℕ) → IsStackOf stack flat → 0 < mask → mask ≤ rooted_masks → IsVertex flat v
    → place_at stack (on_stack flat mask v) ≡ record { col = col_of flat v; row = row_of flat v; layer = mask - 1 }
stack_place stack flat mask v is some room vertex =
    let at = place_at-inside flat v vertex in
    let under : layer_of flat v ≡ 0 = omega (arith, at.2, is.single) in
    let number = vertex_number-place flat v in
    let here : on_stack flat mask v ≡ vertex_number flat (col_of flat v) (row_of flat v) (mask - 1) =
    grind (arith, under, number) in
    let over : vertex_number flat (col_of flat v) (row_of flat v) (mask - 1)
    ≡ vertex_number stack (col_of flat v) (row_of flat v) (mask - 1) =
    sym (ap (λ n. ((mask - 1) * n + row_of flat v) * cols stack + col_of flat v) is.rows_of
    ∙ ap (λ n. ((mask - 1) * rows flat + row_of flat v) * n + col_of flat v) is.cols_of) in
    ap (place_at stack) (here ∙ over)
    ∙ place_at-number stack (col_of flat v) (row_of flat v) (mask - 1) (omega (arith, at.0, is.cols_of)) (omega (arith, at.1, is.rows_of))

-- where a mask stands at a vertex with its place
pub spot_on : (stack flat : Size) (mask v count : ℕ) (place : Place) → IsStackOf stack flat → 0 < mask → mask ≤ rooted_masks
    → StandsAt flat place v → count ≡ vertices flat
    → StandsAt stack (record { col = place.col; row = place.row; layer = mask - 1 }) ((mask - 1) * count + v)
spot_on stack flat mask v count place is some room at counted =
    let number : on_stack flat mask v ≡ (mask - 1) * count + v =
    ap (λ n. (mask - 1) * n + v) (sym (counted ∙ flat_vertices stack flat is)) in
    let placed : record { col = place.col; row = place.row; layer = mask - 1 } ≡ place_at stack (on_stack flat mask v) =
    ap (λ (p : Place). record { col = p.col; row = p.row; layer = mask - 1 }) at.placed
    ∙ sym (stack_place stack flat mask v is some room at.vertex) in
    let w = on_stack flat mask v in
    subst (StandsAt stack (record { col = place.col; row = place.row; layer = mask - 1 })) number
    (record {
      vertex = vertex_on stack flat mask v is some room at.vertex;
      placed = placed;
      number = ap (λ (p : Place). vertex_number stack p.col p.row p.layer) placed ∙ vertex_number-place stack w;
    })

-- the number of the vertex under one of the stack
pub under_number : (stack flat : Size) (w count : ℕ) (place : Place) → IsStackOf stack flat → StandsAt stack place w
    → count ≡ vertices flat → w - place.layer * count ≡ tile_of stack w
under_number stack flat w count place is at counted =
    let layer : place.layer ≡ w / tiles flat = ap (λ (p : Place). p.layer) at.placed ∙ layer_number stack flat w is in
    ap (λ n. w - n * count) layer ∙ ap (λ n. w - w / tiles flat * n) (counted ∙ flat_vertices stack flat is)
    ∙ omega (arith, div-add-mod w (tiles flat))
    ∙ ap (λ n. w % n) (sym (stack_tiles stack flat is))

pub under_spot : (stack flat : Size) (w number : ℕ) (place : Place) → IsStackOf stack flat → StandsAt stack place w
    → number ≡ tile_of stack w → StandsAt flat (record { col = place.col; row = place.row; layer = 0 }) number
under_spot stack flat w number place is at numbered =
    let same : HaveSameTiles flat stack = record { cols_of = sym is.cols_of; rows_of = sym is.rows_of } in
    let placed = ground_place flat stack w number place same at.vertex at.placed numbered in
    record {
      vertex = omega (arith, numbered, under_vertex stack flat w is at.vertex);
      placed = placed;
      number = ap (λ (p : Place). vertex_number flat p.col p.row p.layer) placed ∙ vertex_number-place flat number;
    }
