-- What has the same numbers is the same: sizes, and lists of vertices.
use Rattle.std.proofs.Common.{◌≡◌, ℕ, List, [], ◌∷◌, All, Some, get_or, map, slice_get, option_map, refl, ◌∙◌, ap, subst}
use Rattle.std.proofs.lemmas.List.Elements.{All-get_or}
use Rattle.std.proofs.lemmas.Option.{slice_get-map, slice_get_within, get_or_from_slice_get}
use Rattle.std.proofs.Math.Bridge.{le_prop}
use Rattle.grid_base.specs.Limits.{IsGridSize}
use Rattle.grid_base.specs.Lists.{At}
use Rattle.grid_base.specs.Numbers.{cols, rows, layers}
use Rattle.grid_base.specs.declared.size.Size.{Size}
use Rattle.grid_base.specs.declared.vertex.Vertex.{Vertex}

abbrev size_with : (cols rows layers : ℕ) → IsGridSize cols rows layers → Size
size_with cols rows layers within = record { cols = cols; rows = rows; layers = layers; within = within }

same_limits : (cols rows layers : ℕ) → IsProp (IsGridSize cols rows layers)
same_limits cols rows layers = hlevel le_prop

-- a size is its three numbers
pub size_is_numbers : (s t : Size) → cols s ≡ cols t → rows s ≡ rows t → layers s ≡ layers t → s ≡ t
size_is_numbers s t p q r =
    subst (λ (n : ℕ). (w : IsGridSize n (rows t) (layers t)) → s ≡ size_with n (rows t) (layers t) w) p
    (subst (λ (n : ℕ). (w : IsGridSize (cols s) n (layers t)) → s ≡ size_with (cols s) n (layers t) w) q
    (subst (λ (n : ℕ). (w : IsGridSize (cols s) (rows s) n) → s ≡ size_with (cols s) (rows s) n w) r
    (λ w. ap (size_with (cols s) (rows s) (layers s)) (same_limits (cols s) (rows s) (layers s) s.within w))))
    t.within

-- the numbers of these vertices
abbrev pub numbers : List Vertex → List ℕ
numbers vertices = map (λ v. v.0) vertices

-- vertices are their numbers
pub same_vertices : (vs ws : List Vertex) → numbers vs ≡ numbers ws → vs ≡ ws
same_vertices [] [] same = refl
same_vertices [] (w ∷ ws) same = cc
same_vertices (v ∷ vs) [] same = cc
same_vertices (v ∷ vs) (w ∷ ws) same =
    let first : v.0 ≡ w.0 = cc in
    let rest : numbers vs ≡ numbers ws = cc in
    let head : v ≡ w = ap (λ (n : ℕ). record { 0 = n }) first in
    let tail : vs ≡ ws = same_vertices vs ws rest in
    cc

-- what holds of each number holds of the vertex at each place
pub All-at : (P : ℕ → Type 0) (vertices : List Vertex) → All P (numbers vertices) → (i : ℕ) (v : Vertex) → At vertices i v → P v.0
All-at P vertices h i v at_i =
    let found : slice_get (numbers vertices) i ≡ Some v.0 = slice_get-map (λ (u : Vertex). u.0) vertices i ∙ ap (option_map (λ (u : Vertex). u.0)) at_i in
    let here : get_or (numbers vertices) i v.0 ≡ v.0 = get_or_from_slice_get (numbers vertices) i v.0 v.0 found in
    subst P here (All-get_or P (numbers vertices) i v.0 (slice_get_within (numbers vertices) i v.0 found) h)
