-- The edges over a tile edge, and what one more of them adds.
use Rattle.std.proofs.Common.{◌≡◌, ℕ, ◌+◌, ◌*◌, ◌<◌, ◌≤◌, ◌++◌, ◌∷◌, [], ◌||◌, Bool, true, false, List, cond, get_or, length, map, ltb, refl, sym, ◌∙◌, ap, arith, zero-add}
use Rattle.std.specs.List.{filter, list_any, range_with_len}
use Rattle.std.proofs.lemmas.List.Folds.{list_any-append, list_any_at}
use Rattle.std.proofs.lemmas.List.FromFn.{filter_of_map_range_with_len_more, get_or-map-range_with_len, length-map-range_with_len, map-range_with_len_more, sum_by-map-range_with_len_more}
use Rattle.std.proofs.Math.Nat.{mul-le-mul_right}
use Rattle.grid_base.specs.declared.size.Size.{Size}
use Rattle.grid_base.specs.Numbers.{layers, vertices}
use Rattle.grid_graph.specs.declared.grid.Grid.{Grid}
use Rattle.grid_graph.specs.Flat.{tiles}
use Rattle.grid_graph.specs.Grids.{capacity, kind, size_of}
use Rattle.congestion_cells.specs.declared.tile_uses.TileUse.{TileUse}
use Rattle.congestion_cells.specs.TileUses.{edge_over, is_choked, tile_use, with_edge}

-- the edge of a layer over a tile edge is one of the grid's
pub edge_below : (s : Size) (tile_edge layer : ℕ) → tile_edge < 2 * tiles s → layer < layers s
    → edge_over s tile_edge layer < 2 * vertices s
edge_below s tile_edge layer below inside =
    let whole : (layer + 1) * (2 * tiles s) ≤ layers s * (2 * tiles s) = mul-le-mul_right (2 * tiles s) (omega (arith, inside)) in
    omega (arith, below, whole)

-- whether one passes, and one more
pub any_more : (p : ℕ → Bool) (f : ℕ → ℕ) (first n : ℕ)
    → list_any p (map f (range_with_len first (n + 1))) ≡ (list_any p (map f (range_with_len first n)) || p (f (first + n)))
any_more p f first n =
    ap (list_any p) (map-range_with_len_more f first n (first + n) refl)
    ∙ list_any-append p (map f (range_with_len first n)) (f (first + n) ∷ [])
    ∙ ap (λ (last : Bool). list_any p (map f (range_with_len first n)) || last) (last_any p (f (first + n)))
  where
    last_any : (p : ℕ → Bool) (x : ℕ) → list_any p (x ∷ []) ≡ p x
    last_any p x = or_false (p x)
      where
        or_false : (b : Bool) → (b || false) ≡ b
        or_false true = refl
        or_false false = refl

-- the use of a tile edge by one more layer
pub use_more : (g : Grid) (load : ℕ → ℕ) (first n tile_edge : ℕ) (before : TileUse)
    → before ≡ tile_use g load (record { first = first; count = n }) tile_edge
    → with_edge before (load (edge_over (size_of g) tile_edge (first + n))) (capacity g (edge_over (size_of g) tile_edge (first + n))) (kind g (edge_over (size_of g) tile_edge (first + n)))
    ≡ tile_use g load (record { first = first; count = n + 1 }) tile_edge
use_more g load first n tile_edge before is =
    let f : ℕ → ℕ = edge_over (size_of g) tile_edge in
    rw is (sym (rw (
      sum_by-map-range_with_len_more load f first n (first + n) refl,
      sum_by-map-range_with_len_more (capacity g) f first n (first + n) refl,
      any_more (λ e. is_choked (kind g e)) f first n,
      any_more (λ e. ltb (capacity g e) (load e)) f first n,
    ) refl))

-- one that passes
pub any_passes : (p : ℕ → Bool) (f : ℕ → ℕ) (first n i : ℕ) → i < n → p (f (first + i)) ≡ true
    → list_any p (map f (range_with_len first n)) ≡ true
any_passes p f first n i below passes =
    let at : get_or (map f (range_with_len first n)) i 0 ≡ f (first + i) = get_or-map-range_with_len f first n i (first + i) 0 below refl in
    let inside : i < length (map f (range_with_len first n)) = omega (arith, below, length-map-range_with_len f first n) in
    list_any_at p (map f (range_with_len first n)) i 0 inside (ap p at ∙ passes)

same_list : (xs : List ℕ) → map (λ (x : ℕ). x) xs ≡ xs
same_list [] = refl
same_list (x ∷ xs) = ap (λ (rest : List ℕ). x ∷ rest) (same_list xs)

-- the numbers that pass, of one more
pub filter_more : (p : ℕ → Bool) (n : ℕ) → filter p (range_with_len 0 (n + 1)) ≡ filter p (range_with_len 0 n) ++ cond (p n) (n ∷ []) []
filter_more p n =
    sym (ap (filter p) (same_list (range_with_len 0 (n + 1))))
    ∙ filter_of_map_range_with_len_more p (λ (x : ℕ). x) 0 n n (zero-add n)
    ∙ ap (λ (xs : List ℕ). filter p xs ++ cond (p n) (n ∷ []) []) (same_list (range_with_len 0 n))
