-- Reading what stands before the nets of a generated design.
use Rattle.std.proofs.Common.{◌≡◌, ℕ, ◌-◌, ◌*◌, ◌%◌, ◌≤◌, ◌==◌, true, false, ⊎_elim, List, ◌∷◌, ◌++◌, get_or, refl, arith, append_assoc, pos, le-leb}
use Rattle.std.specs.Prelude.{codes, decimal, Some}
use Rattle.std.specs.List.{range_with_len}
use Rattle.std.proofs.lemmas.Bool.{cases_Bool}
use Rattle.std.proofs.lemmas.Nat.{mul-le}
use Rattle.std.proofs.lemmas.List.FromFn.{length-range_with_len, length-map-range_with_len}
use Rattle.grid_base.specs.Limits.{max_layers, max_vertices}
use Rattle.grid_graph.specs.Limits.{max_capacity, max_demand}
use Rattle.text_scan.specs.Reading.{Reading}
use Rattle.gr_make.specs.declared.shape.Shape.{Shape}
use Rattle.gr_make.specs.Shapes.{IsShape}
use Rattle.gr_make.specs.MadeNets.{tile_side}
use Rattle.gr_make.specs.MadeText.{vertical_level, horizontal_level, per_layer, heading_lines}
use Rattle.design_tokens.specs.declared.input_fault.InputFault.TheVariants.{CapacityLimit, WidthLimit}
use Rattle.design_tokens.specs.declared.wanted.Wanted.{Wanted}
use Rattle.design_tokens.specs.declared.wanted.Wanted.TheVariants as wanted
use Rattle.ispd_reader.specs.Header.{extent_of, extent_at, capacities_at, widths_at, spacings_at, vias_at, origin_at, tile_size_at, header_at}
use Rattle.ispd_reader.specs.Numbers.{capacity_at, width_at, spacing_at}
use Rattle.ispd_reader.specs.Words.{spelling}
use Rattle.made_designs.specs.MadeContents.{for_layers, made_extent, made_header}
use Rattle.made_designs.proofs.Layers.{layers_read, unused_read, index_of_layers}
use Rattle.made_designs.proofs.LineWords.{words_left, words_of_lines}
use Rattle.made_designs.proofs.Tokens.{Reads, reads-then, word_read, number_read, within_read, side_read}

-- the size of a shape is one of a grid
extent_made : (shape : Shape) → IsShape shape → extent_of (pos shape.cols) (pos shape.rows) (pos shape.layers) ≡ Some (made_extent shape)
unfolding extent_of
extent_made shape is =
    let area : shape.cols * shape.rows ≤ 1024 * 1024 = mul-le shape.cols shape.rows 1024 1024 is.few_cols is.few_rows in
    let volume : shape.cols * shape.rows * shape.layers ≤ 1024 * 1024 * 8 = mul-le (shape.cols * shape.rows) shape.layers (1024 * 1024) 8 area is.few_layers in
    let few : shape.layers ≤ max_layers = omega (arith, is.few_layers) in
    let small : shape.cols * shape.rows * shape.layers ≤ max_vertices = omega (arith, volume) in
    let col : 1 ≤ shape.cols = omega (arith, is.some_cols) in
    let row : 1 ≤ shape.rows = omega (arith, is.some_rows) in
    let layer : 1 ≤ shape.layers = omega (arith, is.some_layers) in
    rw (le-leb 1 shape.cols col, le-leb 1 shape.rows row, le-leb 1 shape.layers layer, le-leb shape.layers max_layers few, le-leb (shape.cols * shape.rows * shape.layers) max_vertices small) refl

extent_read : (shape : Shape) → IsShape shape → (r : Reading) (words : List (List ℕ)) → words_left r ≡ codes "grid" ∷ decimal shape.cols ∷ decimal shape.rows ∷ decimal shape.layers ∷ words →
    Reads (extent_at r) (made_extent shape) words
unfolding extent_at
extent_read shape is r words here =
    reads-then _ (word_read wanted.Grid r _ here) (λ r1 here1.
    reads-then _ (number_read shape.cols r1 _ (omega (arith, is.few_cols)) here1).read (λ r2 here2.
    reads-then _ (number_read shape.rows r2 _ (omega (arith, is.few_rows)) here2).read (λ r3 here3.
    reads-then _ (number_read shape.layers r3 words (omega (arith, is.few_layers)) here3).read (λ r4 here4.
    record { after = r4; reads = rw (extent_made shape is) refl; leaves = here4 }))))

-- capacities of at most 8
capacities_read : (direction : Wanted) (shape : Shape) (number : ℕ → ℕ) → ((layer : ℕ) → number layer ≤ 8) → (r : Reading) (others : List (List ℕ)) →
    words_left r ≡ spelling direction ∷ codes "capacity" ∷ (per_layer shape number ++ others) → Reads (capacities_at direction shape.layers r) (for_layers shape number) others
unfolding capacities_at
capacities_read direction shape number low r others here =
    reads-then _ (word_read direction r _ here) (λ r1 here1.
    reads-then _ (word_read wanted.Capacity r1 _ here1) (λ r2 here2.
    layers_read shape (λ _. capacity_at) number
    (λ layer i r3 more here3. within_read 0 max_capacity (number layer) CapacityLimit r3 more (omega arith) (omega (arith, low layer)) (omega (arith, low layer)) here3)
    r2 others here2))

widths_read : (shape : Shape) (r : Reading) (others : List (List ℕ)) → words_left r ≡ codes "minimum" ∷ codes "width" ∷ (per_layer shape (λ layer. 1) ++ others) →
    Reads (widths_at shape.layers r) (for_layers shape (λ layer. 1)) others
unfolding widths_at
widths_read shape r others here =
    reads-then _ (word_read wanted.Minimum r _ here) (λ r1 here1.
    reads-then _ (word_read wanted.Width r1 _ here1) (λ r2 here2.
    layers_read shape (λ _. width_at) (λ layer. 1)
    (λ layer i r3 more here3. within_read 0 max_demand 1 WidthLimit r3 more (omega arith) (omega arith) (omega arith) here3)
    r2 others here2))

-- spacings of 1 for layers whose widths are 1
spacings_read : (shape : Shape) (r : Reading) (others : List (List ℕ)) → words_left r ≡ codes "minimum" ∷ codes "spacing" ∷ (per_layer shape (λ layer. 1) ++ others) →
    Reads (spacings_at (for_layers shape (λ layer. 1)) r) (for_layers shape (λ layer. 1)) others
unfolding spacings_at
spacings_read shape r others here =
    let widths = for_layers shape (λ layer. 1) in
    let at_most : (i : ℕ) → get_or widths i 0 ≤ 1 = index_of_layers (λ layer. 1) 1 (λ layer. omega arith) 1 shape.layers in
    reads-then _ (word_read wanted.Minimum r _ here) (λ r1 here1.
    reads-then _ (word_read wanted.Spacing r1 _ here1) (λ r2 here2.
    rw (length-map-range_with_len {X = ℕ} (λ layer. 1) 1 shape.layers)
    (layers_read shape (λ layer. spacing_at (get_or widths layer 0)) (λ layer. 1)
    (λ layer i r3 more here3. within_read (1 - get_or widths i 0) (max_demand - get_or widths i 0) 1 WidthLimit r3 more (omega arith) (omega (arith, at_most i)) (omega arith) here3)
    r2 others here2)))

vias_read : (shape : Shape) (r : Reading) (others : List (List ℕ)) → words_left r ≡ codes "via" ∷ codes "spacing" ∷ (per_layer shape (λ layer. 1) ++ others) →
    Reads (vias_at shape.layers r) tt others
unfolding vias_at
vias_read shape r others here =
    reads-then _ (word_read wanted.Via r _ here) (λ r1 here1.
    reads-then _ (word_read wanted.Spacing r1 _ here1) (λ r2 here2.
    let unused = unused_read (λ layer. 1) (λ layer. omega arith) (range_with_len 1 shape.layers) 0 r2 others here2 in
    let read = rw (length-range_with_len 1 shape.layers) at unused.1 in
    record { after = read.after; reads = rw read.reads refl; leaves = read.leaves }))

origin_read : (r : Reading) (others : List (List ℕ)) → words_left r ≡ decimal 0 ∷ decimal 0 ∷ others → Reads (origin_at r) (pos 0, pos 0) others
unfolding origin_at
origin_read r others here =
    reads-then _ (number_read 0 r _ (omega arith) here).read (λ r1 here1.
    reads-then _ (number_read 0 r1 others (omega arith) here1).read (λ r2 here2.
    record { after = r2; reads = refl; leaves = here2 }))

tile_read : (r : Reading) (others : List (List ℕ)) → words_left r ≡ decimal tile_side ∷ decimal tile_side ∷ others → Reads (tile_size_at r) (pos tile_side, pos tile_side) others
unfolding tile_size_at
tile_read r others here =
    reads-then _ (side_read tile_side r _ (omega arith) (omega arith) here) (λ r1 here1.
    reads-then _ (side_read tile_side r1 others (omega arith) (omega arith) here1) (λ r2 here2.
    record { after = r2; reads = refl; leaves = here2 }))

-- no capacity of a layer is above 8
pub vertical_low : (layer : ℕ) → vertical_level layer ≤ 8
vertical_low layer = ⊎_elim
    (λ (even : (layer % 2 == 0) ≡ true). rw even (omega arith))
    (λ (odd : (layer % 2 == 0) ≡ false). rw odd (omega arith))
    (cases_Bool (layer % 2 == 0))

pub horizontal_low : (layer : ℕ) → horizontal_level layer ≤ 8
horizontal_low layer = ⊎_elim
    (λ (even : (layer % 2 == 0) ≡ true). rw even (omega arith))
    (λ (odd : (layer % 2 == 0) ≡ false). rw odd (omega arith))
    (cases_Bool (layer % 2 == 0))

-- all of them
pub heading_read : (shape : Shape) → IsShape shape → (r : Reading) (others : List (List ℕ)) → words_left r ≡ words_of_lines (heading_lines shape) ++ others →
    Reads (header_at r) (made_header shape) (codes "num" ∷ codes "net" ∷ decimal shape.nets ∷ others)
unfolding header_at
heading_read shape is r others here =
    let parts = simp append_assoc at here in
    reads-then _ (extent_read shape is r _ parts) (λ r1 here1.
    reads-then _ (capacities_read wanted.Vertical shape vertical_level vertical_low r1 _ here1) (λ r2 here2.
    reads-then _ (capacities_read wanted.Horizontal shape horizontal_level horizontal_low r2 _ here2) (λ r3 here3.
    reads-then _ (widths_read shape r3 _ here3) (λ r4 here4.
    reads-then _ (spacings_read shape r4 _ here4) (λ r5 here5.
    reads-then _ (vias_read shape r5 _ here5) (λ r6 here6.
    reads-then _ (origin_read r6 _ here6) (λ r7 here7.
    reads-then _ (tile_read r7 _ here7) (λ r8 here8.
    record { after = r8; reads = refl; leaves = here8 }))))))))
