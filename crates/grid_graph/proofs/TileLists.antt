-- The tiles of terminals.
use Rattle.std.proofs.Common.{ℕ, ◌≡◌, ◌<◌, List, [], ◌∷◌, length, get_or, option_map, All, sym, ap, subst, ◌∙◌}
use Rattle.std.proofs.lemmas.List.{length-map}
use Rattle.std.proofs.lemmas.List.Elements.{All-cons, All-nil}
use Rattle.std.proofs.lemmas.Option.{same_Some, slice_get-map, slice_get-get_or, slice_get_within}
use Rattle.grid_base.specs.declared.size.Size.{Size}
use Rattle.grid_base.specs.declared.vertex.Vertex.{Vertex}
use Rattle.grid_base.specs.Lists.{At}
use Rattle.grid_base.specs.Numbers.{IsVertex}
use Rattle.grid_graph.specs.Flat.{tile_of, HaveSameTiles}
use Rattle.grid_graph.specs.TilePieces.{tiles_of}
use Rattle.grid_graph.proofs.TileSteps.{tile_vertex}

-- each tile stands at its terminal's place
pub tiles_at : (s : Size) (terminals : List Vertex) (place : ℕ) (v : Vertex) → At terminals place v → At (tiles_of s terminals) place (record { 0 = tile_of s v.0 })
tiles_at s terminals place v at =
    let tile : Vertex → Vertex = λ u. record { 0 = tile_of s u.0 } in slice_get-map tile terminals place ∙ ap (option_map tile) at

-- they are vertices of the flat grid
pub tiles_vertices : (flat s : Size) (terminals : List Vertex) → HaveSameTiles flat s → All (λ (v : Vertex). IsVertex flat v.0) (tiles_of s terminals)
tiles_vertices flat s [] is = All-nil (λ (v : Vertex). IsVertex flat v.0)
tiles_vertices flat s (t ∷ rest) is = All-cons (λ (v : Vertex). IsVertex flat v.0) (record { 0 = tile_of s t.0 }) (tiles_of s rest) (tile_vertex flat s t.0 is) (tiles_vertices flat s rest is)

-- and as many as the terminals
pub tiles_long : (s : Size) (terminals : List Vertex) → length (tiles_of s terminals) ≡ length terminals
tiles_long s terminals = length-map terminals (λ (v : Vertex). record { 0 = tile_of s v.0 })

-- so at a place where a tile stands there is a terminal, whose tile it is
pub terminal_at : (s : Size) (terminals : List Vertex) (place : ℕ) (t : Vertex) → At (tiles_of s terminals) place t → (v : Vertex) × At terminals place v × (tile_of s v.0 ≡ t.0)
terminal_at s terminals place t at =
    let v = get_or terminals place t in
    let stands : At terminals place v = slice_get-get_or terminals place t (subst (λ n. place < n) (tiles_long s terminals) (slice_get_within (tiles_of s terminals) place t at)) in
    let same = same_Some (record { 0 = tile_of s v.0 }) t (sym (tiles_at s terminals place v stands) ∙ at) in
    (v, stands, ap (λ (u : Vertex). u.0) same)
