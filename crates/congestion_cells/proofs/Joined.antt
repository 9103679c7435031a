-- Several cells as one.
use Rattle.std.proofs.Common.{◌≡◌, ℕ, ◌+◌, ◌++◌, ◌∷◌, [], ◌||◌, ◌<◌, Bool, true, false, List, get_or, length, max, map, flat_map, refl, sym, ◌∙◌, ap, arith, zero-add}
use Rattle.std.specs.List.{range_with_len}
use Rattle.std.proofs.lemmas.List.{append-nil, map-append}
use Rattle.std.proofs.lemmas.Grind.{flat_map-append}
use Rattle.std.proofs.lemmas.List.Folds.{list_any-append}
use Rattle.std.proofs.lemmas.List.FromFn.{get_or-map-range_with_len, map-range_with_len_more}
use Rattle.congestion_cells.specs.declared.cell.Cell.{Cell}
use Rattle.congestion_cells.specs.declared.direction.Direction.{Direction}
use Rattle.congestion_cells.specs.Cells.{greatest, joined, with_cell}
use Rattle.congestion_cells.specs.Rasters.{edges_at}

greatest-append : (xs ys : List ℕ) → greatest (xs ++ ys) ≡ max (greatest xs) (greatest ys)
greatest-append [] ys = omega arith
greatest-append (x ∷ xs) ys = omega (arith, greatest-append xs ys)

pub joined-append : (xs ys : List Cell) → joined (xs ++ ys) ≡ with_cell (joined xs) (joined ys)
joined-append xs ys =
    rw (
      map-append (λ (c : Cell). c.class) xs ys,
      greatest-append (map (λ (c : Cell). c.class) xs) (map (λ (c : Cell). c.class) ys),
      list_any-append (λ (c : Cell). c.is_overfull) xs ys,
      list_any-append (λ (c : Cell). c.is_closed) xs ys,
      list_any-append (λ (c : Cell). c.is_partly_closed) xs ys,
    ) refl

-- the tile edges at one more tile
pub joined-more : (cell : ℕ → Cell) (direction : Direction) (tile : ℕ → ℕ) (n : ℕ) (before : Cell)
    → before ≡ joined (map cell (flat_map (edges_at direction) (map tile (range_with_len 0 n))))
    → with_cell before (joined (map cell (edges_at direction (tile n))))
    ≡ joined (map cell (flat_map (edges_at direction) (map tile (range_with_len 0 (n + 1)))))
joined-more cell direction tile n before is =
    let old : List ℕ = map tile (range_with_len 0 n) in
    let edges : flat_map (edges_at direction) (map tile (range_with_len 0 (n + 1))) ≡ flat_map (edges_at direction) old ++ edges_at direction (tile n) =
    ap (flat_map (edges_at direction)) (map-range_with_len_more tile 0 n n (zero-add n))
    ∙ flat_map-append (edges_at direction) old (tile n ∷ [])
    ∙ ap (λ (last : List ℕ). flat_map (edges_at direction) old ++ last) (append-nil (edges_at direction (tile n)))
    in
    rw is (sym (
    ap (λ (es : List ℕ). joined (map cell es)) edges
    ∙ ap joined (map-append cell (flat_map (edges_at direction) old) (edges_at direction (tile n)))
    ∙ joined-append (map cell (flat_map (edges_at direction) old)) (map cell (edges_at direction (tile n)))
    ))

max_zero : (n : ℕ) → max n 0 ≡ n
max_zero n = omega arith

or_false : (b : Bool) → (b || false) ≡ b
or_false true = refl
or_false false = refl

-- one cell, and two
pub joined_one : (x : Cell) → joined (x ∷ []) ≡ x
joined_one x = rw (max_zero x.class, or_false x.is_overfull, or_false x.is_closed, or_false x.is_partly_closed) refl

pub joined_two : (x y : Cell) → joined (x ∷ y ∷ []) ≡ with_cell x y
joined_two x y = joined-append (x ∷ []) (y ∷ []) ∙ ap (λ (z : Cell). with_cell z (joined (y ∷ []))) (joined_one x) ∙ ap (λ (z : Cell). with_cell x z) (joined_one y)

-- what is read of a list of cells
pub read_cell : (cells : List Cell) (cell : ℕ → Cell) (i : ℕ) (other : Cell) → cells ≡ map cell (range_with_len 0 (length cells)) → i < length cells
    → get_or cells i other ≡ cell i
read_cell cells cell i other is below =
    ap (λ (xs : List Cell). get_or xs i other) is ∙ get_or-map-range_with_len cell 0 (length cells) i i other below (zero-add i)

pub with_same : (a b x y : Cell) → a ≡ x → b ≡ y → with_cell a b ≡ with_cell x y
with_same a b x y first second = ap (λ (z : Cell). with_cell z b) first ∙ ap (λ (z : Cell). with_cell x z) second
