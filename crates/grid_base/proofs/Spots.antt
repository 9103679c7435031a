-- The places that the six steps lead to.
use Rattle.std.proofs.Common.{◌≡◌, ℕ, ◌+◌, ◌-◌, ◌*◌, ◌<◌, Bool, true, false, ltb, Option, Some, option_map, refl, sym, ◌∙◌, ap, subst}
use Rattle.std.proofs.lemmas.Bool.{ltb-true}
use Rattle.grid_base.specs.declared.piece.Piece.{Piece}
use Rattle.grid_base.specs.declared.place.Place.{Place}
use Rattle.grid_base.specs.declared.size.Size.{Size}
use Rattle.grid_base.specs.declared.spot.Spot.{Spot}
use Rattle.grid_base.specs.declared.vertex.Vertex.{Vertex}
use Rattle.grid_base.specs.Numbers.{cols, rows, layers, col_of, row_of, layer_of, place_at, to_next_col, to_next_row, to_next_layer, IsVertex}
use Rattle.grid_base.specs.Neighbours.{step, west, east, south, north, down, up}
use Rattle.grid_base.specs.Spots.{spotted, spot_at, IsSpot}
use Rattle.grid_base.proofs.Pieces.{end_place-to_next_col, end_place-to_next_row, place_at-end_of}
use Rattle.grid_base.proofs.Places.{vertex_number-place}
use Rattle.grid_base.proofs.Neighbours.{goes_east, goes_north, goes_up, place_west, place_south, place_down}

-- a vertex with its place
pub spot_at-is : (s : Size) (v : ℕ) → IsVertex s v → IsSpot s (spot_at s v)
spot_at-is s v vertex = record { vertex = vertex; placed = refl; number = vertex_number-place s v }

-- a step that arrives at this place
abbrev pub arriving : Place → Option (Vertex × Piece) → Option (Spot × Piece)
arriving q found = option_map (λ (x : Vertex × Piece). (record { vertex = x.0; place = q }, x.1)) found

arrives : (s : Size) (inside : Bool) (w : ℕ) (p : Piece) (q : Place) → (inside ≡ true → place_at s w ≡ q) → arriving q (step inside w p) ≡ spotted s (step inside w p)
arrives s true w p q same = ap (λ (x : Place). Some (record { vertex = record { 0 = w }; place = x }, p)) (sym (same refl))
arrives s false w p q same = refl

pub arrives_west : (s : Size) (v : ℕ) (p : Place) (n : ℕ) → IsVertex s v → p ≡ place_at s v → n ≡ p.col - 1 → arriving (record { col = n; row = p.row; layer = p.layer }) (west s v) ≡ spotted s (west s v)
arrives_west s v p n vertex at is = arrives s (ltb 0 (col_of s v)) (v - 1) (to_next_col (v - 1)) _ (λ test.
    place_west s v vertex (ltb-true _ _ test) ∙ ap (λ (q : Place). record { col = q.col - 1; row = q.row; layer = q.layer }) (sym at) ∙ ap (λ x. record { col = x; row = p.row; layer = p.layer }) (sym is))

pub arrives_south : (s : Size) (v : ℕ) (p : Place) (n : ℕ) → IsVertex s v → p ≡ place_at s v → n ≡ p.row - 1 → arriving (record { col = p.col; row = n; layer = p.layer }) (south s v) ≡ spotted s (south s v)
arrives_south s v p n vertex at is = arrives s (ltb 0 (row_of s v)) (v - cols s) (to_next_row (v - cols s)) _ (λ test.
    place_south s v vertex (ltb-true _ _ test) ∙ ap (λ (q : Place). record { col = q.col; row = q.row - 1; layer = q.layer }) (sym at) ∙ ap (λ x. record { col = p.col; row = x; layer = p.layer }) (sym is))

pub arrives_down : (s : Size) (v : ℕ) (p : Place) (n : ℕ) → IsVertex s v → p ≡ place_at s v → n ≡ p.layer - 1 → arriving (record { col = p.col; row = p.row; layer = n }) (down s v) ≡ spotted s (down s v)
arrives_down s v p n vertex at is = arrives s (ltb 0 (layer_of s v)) (v - cols s * rows s) (to_next_layer (v - cols s * rows s)) _ (λ test.
    place_down s v vertex (ltb-true _ _ test) ∙ ap (λ (q : Place). record { col = q.col; row = q.row; layer = q.layer - 1 }) (sym at) ∙ ap (λ x. record { col = p.col; row = p.row; layer = x }) (sym is))

pub arrives_east : (s : Size) (v : ℕ) (p : Place) (n : ℕ) → IsVertex s v → p ≡ place_at s v → (p.col + 1 < cols s → n ≡ p.col + 1) → arriving (record { col = n; row = p.row; layer = p.layer }) (east s v) ≡ spotted s (east s v)
arrives_east s v p n vertex at is = arrives s (ltb (col_of s v + 1) (cols s)) (v + 1) (to_next_col v) _ (λ test.
    let goes = goes_east s v vertex (ltb-true _ _ test) in
    ap (place_at s) (sym goes.2) ∙ place_at-end_of s (to_next_col v) goes.0 ∙ end_place-to_next_col s v ∙ ap (λ (q : Place). record { col = q.col + 1; row = q.row; layer = q.layer }) (sym at) ∙ ap (λ x. record { col = x; row = p.row; layer = p.layer }) (sym (is (subst (λ (q : Place). q.col + 1 < cols s) (sym at) (ltb-true _ _ test)))))

pub arrives_north : (s : Size) (v : ℕ) (p : Place) (n : ℕ) → IsVertex s v → p ≡ place_at s v → (p.row + 1 < rows s → n ≡ p.row + 1) → arriving (record { col = p.col; row = n; layer = p.layer }) (north s v) ≡ spotted s (north s v)
arrives_north s v p n vertex at is = arrives s (ltb (row_of s v + 1) (rows s)) (v + cols s) (to_next_row v) _ (λ test.
    let goes = goes_north s v vertex (ltb-true _ _ test) in
    ap (place_at s) (sym goes.2) ∙ place_at-end_of s (to_next_row v) goes.0 ∙ end_place-to_next_row s v ∙ ap (λ (q : Place). record { col = q.col; row = q.row + 1; layer = q.layer }) (sym at) ∙ ap (λ x. record { col = p.col; row = x; layer = p.layer }) (sym (is (subst (λ (q : Place). q.row + 1 < rows s) (sym at) (ltb-true _ _ test)))))

pub arrives_up : (s : Size) (v : ℕ) (p : Place) (n : ℕ) → IsVertex s v → p ≡ place_at s v → (p.layer + 1 < layers s → n ≡ p.layer + 1) → arriving (record { col = p.col; row = p.row; layer = n }) (up s v) ≡ spotted s (up s v)
arrives_up s v p n vertex at is = arrives s (ltb (layer_of s v + 1) (layers s)) (v + cols s * rows s) (to_next_layer v) _ (λ test.
    let goes = goes_up s v vertex (ltb-true _ _ test) in
    ap (place_at s) (sym goes.2) ∙ place_at-end_of s (to_next_layer v) goes.0 ∙ ap (λ (q : Place). record { col = q.col; row = q.row; layer = q.layer + 1 }) (sym at) ∙ ap (λ x. record { col = p.col; row = p.row; layer = x }) (sym (is (subst (λ (q : Place). q.layer + 1 < layers s) (sym at) (ltb-true _ _ test)))))
