-- Each design that a generated text names is near, its first layer is joined along x and its second one along y, and all its nets are reachable.
use Rattle.std.proofs.Common.{◌≡◌, ℕ, ◌+◌, ◌*◌, ◌<◌, ◌≤◌, ◌==◌, false, List, [], ◌∷◌, slice_index, refl, sym, ap, ◌∙◌, arith, ne_eqb, pos, ◌+ℤ◌, ◌≤ℤ◌, nat_abs, Ok}
use Rattle.std.specs.Prelude.{map, Option, None, unwrap_or}
use Rattle.std.proofs.lemmas.Int.{ints}
use Rattle.std.proofs.lemmas.List.FromFn.{get_or-map-range_with_len}
use Rattle.grid_base.specs.declared.axis.Axis.TheVariants.{X, Y}
use Rattle.grid_base.specs.Lines.{edge_from}
use Rattle.grid_base.specs.Lists.{At}
use Rattle.grid_base.specs.Numbers.{cols, rows, layers, edge_along}
use Rattle.grid_graph.specs.declared.design.Design.{Design}
use Rattle.grid_graph.specs.declared.ground.Ground.TheVariants.{Open, WithChoked}
use Rattle.grid_graph.specs.declared.net_spec.NetSpec.{NetSpec}
use Rattle.grid_graph.specs.Borders.{HasBordersInRange}
use Rattle.grid_graph.specs.Grids.{size_of, layout_of, capacity, first_capacity}
use Rattle.grid_graph.specs.Grounds.{JoinsTerminals}
use Rattle.grid_graph.specs.Layouts.{Layout}
use Rattle.grid_graph.specs.Limits.{max_number}
use Rattle.grid_graph.proofs.Grounds.{Allows-choked}
use Rattle.gr_make.specs.declared.shape.Shape.{Shape}
use Rattle.gr_make.specs.MadeAdjustments.{MadeAdjustment, made_adjustments}
use Rattle.gr_make.specs.MadeText.{vertical_level, horizontal_level, made_text}
use Rattle.gr_make.specs.Shapes.{IsShape}
use Rattle.ispd_reader.specs.Adjustments.{Adjustment, last_level}
use Rattle.ispd_reader.specs.Designs.{Contents, IsDesignOfText}
use Rattle.ispd_reader.specs.Header.{Header}
use Rattle.ispd_reader.specs.Nets.{vertex_at}
use Rattle.ispd_reader.specs.Views.{header_of}
use Rattle.made_designs.specs.Layers.{AllowsAlong}
use Rattle.made_designs.specs.MadeContents.{made_extent, made_header, adjustment_made, made_contents}
use Rattle.made_designs.proofs.Contents.{made_text_says}
use Rattle.made_designs.proofs.LayerEdges.{allows_choked, allows_open}
use Rattle.made_designs.proofs.Reaching.{all_reachable}

border_near : (count : ℕ) → count ≤ 1024 → (pos 0 +ℤ pos (count * nat_abs (pos 10))) ≤ℤ pos max_number
border_near count few = omega (arith, ints)

layout_near : (y : Layout) (shape : Shape) → IsShape shape → header_of y ≡ made_header shape →
    ((y.origin.0 +ℤ pos (cols y.size * nat_abs y.tile.0)) ≤ℤ pos max_number) × ((y.origin.1 +ℤ pos (rows y.size * nat_abs y.tile.1)) ≤ℤ pos max_number)
layout_near y shape is same =
    let of_cols : cols y.size ≡ shape.cols = ap (λ (h : Header). h.extent.cols) same in
    let of_rows : rows y.size ≡ shape.rows = ap (λ (h : Header). h.extent.rows) same in
    let x : y.origin.0 ≡ pos 0 = ap (λ (h : Header). h.origin.0) same in
    let up : y.origin.1 ≡ pos 0 = ap (λ (h : Header). h.origin.1) same in
    let width : y.tile.0 ≡ pos 10 = ap (λ (h : Header). h.tile.0) same in
    let height : y.tile.1 ≡ pos 10 = ap (λ (h : Header). h.tile.1) same in
    (rw (of_cols, x, width) (border_near shape.cols is.few_cols), rw (of_rows, up, height) (border_near shape.rows is.few_rows))

-- the first layer has a capacity along x
first_level : (y : Layout) (shape : Shape) → IsShape shape → header_of y ≡ made_header shape → 0 < slice_index y.horizontal 0
first_level y shape is same =
    let eight : slice_index y.horizontal 0 ≡ 8 =
    ap (λ (h : Header). slice_index h.horizontal 0) same ∙ get_or-map-range_with_len horizontal_level 1 shape.layers 0 1 0 (omega (arith, is.some_layers)) refl in
    omega (arith, eight)

-- and the second one along y
second_level : (y : Layout) (shape : Shape) → IsShape shape → header_of y ≡ made_header shape → 0 < slice_index y.vertical 1
second_level y shape is same =
    let eight : slice_index y.vertical 1 ≡ 8 =
    ap (λ (h : Header). slice_index h.vertical 1) same ∙ get_or-map-range_with_len vertical_level 1 shape.layers 1 2 0 (omega (arith, is.some_layers)) refl in
    omega (arith, eight)

-- no adjustment is of an edge along y
none_along_y : (shape : Shape) (v : ℕ) (adjustments : List MadeAdjustment) → last_level (edge_along Y v).0 (map (adjustment_made shape) adjustments) ≡ None
none_along_y shape v [] = refl
none_along_y shape v (a ∷ adjustments) =
    let other : ((edge_along X (vertex_at (made_extent shape) a.col a.row 0)).0 == (edge_along Y v).0) ≡ false =
    ne_eqb (2 * vertex_at (made_extent shape) a.col a.row 0) (2 * v + 1) (λ same. omega (arith, same)) in
    rw (none_along_y shape v adjustments, other) refl

module _ (seed : ℕ) (shape : Shape) (is : IsShape shape) (d : Design) (named : IsDesignOfText (made_text seed shape) d) where
  contents_made : named.contents ≡ made_contents seed shape
  contents_made = let both : Ok named.contents ≡ Ok (made_contents seed shape) = sym named.read ∙ made_text_says seed shape is in cc

  -- its layout is that of the shape
  layout_made : header_of (layout_of d.grid) ≡ made_header shape
  layout_made = named.says.header ∙ ap (λ (c : Contents). c.header) contents_made

  -- it is near
  pub made_design_near : HasBordersInRange d.grid
  made_design_near = let near = layout_near (layout_of d.grid) shape is layout_made in record { right = near.0; upper = near.1 }

  -- the rows of its first layer are joined by open and choked edges
  pub made_rows_joined : AllowsAlong d.grid WithChoked X 0
  made_rows_joined = allows_choked d.grid X 0 (first_level (layout_of d.grid) shape is layout_made)

  unchanged_along_y : (v : ℕ) → capacity d.grid (edge_along Y v).0 ≡ first_capacity d.grid (edge_along Y v).0
  unchanged_along_y v =
      let e = (edge_along Y v).0 in
      let first = first_capacity d.grid e in
      named.says.capacities e
      ∙ ap (λ (adjustments : List Adjustment). unwrap_or (last_level e adjustments) first) (ap (λ (c : Contents). c.adjustments) contents_made)
      ∙ ap (λ (level : Option ℕ). unwrap_or level first) (none_along_y shape v (made_adjustments seed shape))

  -- the columns of its second layer are joined by open edges
  pub made_columns_joined : AllowsAlong d.grid Open Y 1
  made_columns_joined = allows_open d.grid Y 1 (second_level (layout_of d.grid) shape is layout_made) unchanged_along_y

  -- its nets are reachable
  pub made_nets_reachable : (k : ℕ) (n : NetSpec) → At d.nets k n → JoinsTerminals d.grid WithChoked n.terminals
  made_nets_reachable =
      let of_layers : layers (size_of d.grid) ≡ shape.layers = ap (λ (h : Header). h.extent.layers) layout_made in
      let two : 2 ≤ layers (size_of d.grid) = omega (arith, of_layers, is.some_layers) in
      all_reachable d two made_rows_joined (λ v piece here. Allows-choked d.grid (edge_from Y v) (made_columns_joined v piece here))
