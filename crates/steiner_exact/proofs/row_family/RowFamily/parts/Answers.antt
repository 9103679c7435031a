use Rattle.std.proofs.Common.{ℕ, ◌≡◌, ◌+◌, ◌-◌, ◌*◌, ◌^◌, ◌<◌, ◌≤◌, length, ap, ◌∙◌, arith}
use Rattle.std.proofs.lemmas.Option.{get_or_from_slice_get}
use Rattle.grid_base.specs.declared.place.Place.{Place}
use Rattle.grid_base.specs.Numbers.{layer_of}
use Rattle.grid_base.proofs.Places.{place_at-inside}
use Rattle.shortest_paths.specs.LabelWords.{label_of}
use Rattle.label_search.specs.Stamped.{far}
use Rattle.steiner_tables.specs.Tables.{completed}
use Rattle.steiner_exact.specs.declared.terminal_box.TerminalBox.{TerminalBox}
use Rattle.steiner_exact.specs.Boxes.{box_of, width_with}
use Rattle.grid_graph.specs.TilePieces.{tiles_of}
use Rattle.steiner_exact.specs.RowLows.{layers_with}
use Rattle.steiner_exact.proofs.BoxSteps.{few_masks_all, few_layers, layers_within}
use Rattle.grid_graph.proofs.TileSteps.{ground_tile, ground_place, tile_vertex, flat_tiles}
use Rattle.steiner_exact.proofs.row_family.RowFamily.parts.Goals.{After-from}
use Rattle.steiner_exact.proofs.row_family.RowFamily.parts.Goals as goal

pub across-across-requires-clause-vertex : goal.across-across-requires-clause-vertex
across-across-requires-clause-vertex g c =
    let x = c.args.self.now in
    rw (ground_tile x.size c.args.v.0 c.cols.result c.args.place c.requires.vertex c.requires.place c.cols.ensures) (tile_vertex (g.B.Family.size x.bounds.now) x.size c.args.v.0 (flat_tiles (g.B.Family.size x.bounds.now) x.size x.flat))

pub across-across-requires-clause-place : goal.across-across-requires-clause-place
across-across-requires-clause-place g c =
    let x = c.args.self.now in
    ground_place (g.B.Family.size x.bounds.now) x.size c.args.v.0 _ c.args.place (flat_tiles (g.B.Family.size x.bounds.now) x.size x.flat) c.requires.vertex c.requires.place
    (ground_tile x.size c.args.v.0 c.cols.result c.args.place c.requires.vertex c.requires.place c.cols.ensures)

below : (mask count : ℕ) → count ≤ 5 → mask < 2 ^ count - 1 → mask < 2 ^ 5
below mask count few is = omega (arith, few_masks_all count few, is)

pub bounds-self-mask : goal.bounds-self-mask
bounds-self-mask g c = below c.args.mask (length c.args.self.now.terminals.now) c.args.self.now.few c.requires.mask

-- what a box gives for its layers is that of the mask's
width : (g : _) (c : After-from g) → c.from.result ≡ layers_with c.args.self.now.size c.args.self.now.terminals.now c.args.mask c.args.v.0
width g c =
    let x = c.args.self.now in
    let mask = c.args.mask in
    let is = get_or_from_slice_get x.boxes mask (box_of x.size x.terminals.now mask) _ (x.boxed mask (omega (arith, c.requires.mask))) in
    c.from.ensures ∙ c.width_with-layers.ensures ∙ ap (λ (b : TerminalBox). width_with b.layers c.args.place.layer) is
    ∙ ap (λ (p : Place). width_with (box_of x.size x.terminals.now mask).layers p.layer) c.requires.place

few_layers_to : (g : _) (c : After-from g) → c.from.result < 16
few_layers_to g c =
    let x = c.args.self.now in
    omega (arith, width g c, few_layers x.size x.terminals.now c.args.mask (layer_of x.size c.args.v.0) x.vertices (place_at-inside x.size c.args.v.0 c.requires.vertex).2)

pub overflow_mul-result : goal.overflow_mul-result
overflow_mul-result g c =
    let x = c.args.self.now in
    omega (arith, layers_within c.from.result x.via (few_layers_to g c) x.low_via)

pub returns-clause-across : goal.returns-clause-across
returns-clause-across g c =
    let x = c.args.self.now in
    let across = completed (tiles_of x.size x.terminals.now) (g.B.Family.low x.bounds.now) x.limit far (label_of x.labels.now) in
    ◌∙◌ {b = across c.args.mask (c.args.place.row * c.cols.result + c.args.place.col)} c.across-across.ensures.value (ap (across c.args.mask) (ground_tile x.size c.args.v.0 c.cols.result c.args.place c.requires.vertex c.requires.place c.cols.ensures))

pub returns-clause-layers : goal.returns-clause-layers
returns-clause-layers g c = ap (λ n. n * c.args.self.now.via) (width g c)

pub returns-clause-layers_limit : goal.returns-clause-layers_limit
returns-clause-layers_limit g c = layers_within c.from.result c.args.self.now.via (few_layers_to g c) c.args.self.now.low_via
