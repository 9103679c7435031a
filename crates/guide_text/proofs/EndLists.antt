-- The ends of pieces, piece by piece.
use Rattle.std.proofs.Common.{◌≡◌, ℕ, ◌+◌, ◌<◌, List, [], ◌∷◌, ◌++◌, length, get_or, take, sym, ap, ◌∙◌, append_assoc}
use Rattle.std.specs.Prelude.{flat_map, map}
use Rattle.std.proofs.lemmas.Grind.{flat_map-append}
use Rattle.std.proofs.lemmas.List.{take_more, map_more}
use Rattle.grid_base.specs.declared.piece.Piece.{Piece}
use Rattle.grid_base.specs.declared.size.Size.{Size}
use Rattle.grid_base.specs.declared.vertex.Vertex.{Vertex}
use Rattle.grid_base.specs.Numbers.{start_of, end_of}
use Rattle.guide_text.specs.RouteTiles.{ends_of, route_tiles}

-- the ends of one piece more
pub ends_more : (s : Size) (tree : List Piece) (i : ℕ) (d : Piece) (before one two : List ℕ) (start end : ℕ) → i < length tree → before ≡ flat_map (ends_of s) (take i tree)
    → one ≡ before ++ start ∷ [] → two ≡ one ++ end ∷ [] → start ≡ start_of (get_or tree i d) → end ≡ end_of s (get_or tree i d) → two ≡ flat_map (ends_of s) (take (i + 1) tree)
ends_more s tree i d before one two start end within so_far pushed again is_start is_end =
    let p = get_or tree i d in
    let more : flat_map (ends_of s) (take (i + 1) tree) ≡ flat_map (ends_of s) (take i tree) ++ ends_of s p =
    ap (flat_map (ends_of s)) (take_more tree i d within) ∙ flat_map-append (ends_of s) (take i tree) (p ∷ []) in
    again ∙ ap (λ xs. xs ++ end ∷ []) pushed ∙ append_assoc before (start ∷ []) (end ∷ [])
    ∙ (λ k. so_far k ++ (is_start k ∷ is_end k ∷ [])) ∙ sym more

-- one terminal more
pub tiles_more : (s : Size) (tree : List Piece) (terminals : List Vertex) (i : ℕ) (d : Vertex) (before after : List ℕ) → i < length terminals → before ≡ route_tiles s tree (take i terminals)
    → after ≡ before ++ (get_or terminals i d).0 ∷ [] → after ≡ route_tiles s tree (take (i + 1) terminals)
tiles_more s tree terminals i d before after within so_far pushed =
    let number : Vertex → ℕ = λ t. t.0 in
    let ends = flat_map (ends_of s) tree in
    let last = (get_or terminals i d).0 ∷ [] in
    pushed ∙ ap (λ xs. xs ++ last) so_far ∙ append_assoc ends (map number (take i terminals)) last ∙ ap (λ xs. ends ++ xs) (sym (map_more number terminals i d within))
