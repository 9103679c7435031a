use Rattle.std.proofs.Common.{ℕ, ◌≡◌, ◌+◌, ◌-◌, ◌*◌, ◌^◌, min, ap, ◌∙◌, arith}
use Rattle.grid_base.specs.declared.place.Place.{Place}
use Rattle.grid_base.specs.Numbers.{layer_of}
use Rattle.grid_graph.specs.Flat.{tile_of}
use Rattle.grid_graph.proofs.TileSteps.{ground_tile, ground_place, tile_vertex, flat_tiles}
use Rattle.steiner_exact.proofs.goal_bound.GoalBoundBound.rest.Goals as goal

pub rest-requires-clause-vertex : goal.rest-requires-clause-vertex
rest-requires-clause-vertex g c =
    let x = c.args.self.now in
    let flat = g.B.Bound.size x.across.now in
    rw (ground_tile x.size c.args._v.0 c.cols.result c.args.place c.requires.vertex c.requires.place c.cols.ensures) (tile_vertex flat x.size c.args._v.0 (flat_tiles flat x.size x.tiled))

pub rest-requires-clause-place : goal.rest-requires-clause-place
rest-requires-clause-place g c =
    let x = c.args.self.now in
    let flat = g.B.Bound.size x.across.now in
    ground_place flat x.size c.args._v.0 _ c.args.place (flat_tiles flat x.size x.tiled) c.requires.vertex c.requires.place
    (ground_tile x.size c.args._v.0 c.cols.result c.args.place c.requires.vertex c.requires.place c.cols.ensures)

pub returns-clause-value : goal.returns-clause-value
returns-clause-value g c =
    let x = c.args.self.now in
    let v = c.args._v.0 in
    let across = g.B.Bound.rest x.across.now in
    let tile = ground_tile x.size v c.cols.result c.args.place c.requires.vertex c.requires.place c.cols.ensures in
    let ground : c.rest.result ≡ across (tile_of x.size v) = c.rest.ensures.value ∙ ap across tile in
    let layer : c.args.place.layer ≡ layer_of x.size v = ap (λ (p : Place). p.layer) c.requires.place in
    let width : c.from-layers.result ≡ layer_of x.size v - x.layer + (x.layer - layer_of x.size v) =
    omega (arith, c.from-layers.ensures, c.abs_diff.ensures, layer) in
    let by_tile : ℕ = min (c.rest.result + c.from-layers.result * x.via) (2 ^ 61) in
    let by_number : ℕ = min (across (tile_of x.size v) + c.from-layers.result * x.via) (2 ^ 61) in
    ◌∙◌ {b = by_tile} c.min.ensures
    (◌∙◌ {b = by_number} (ap (λ n. min (n + c.from-layers.result * x.via) (2 ^ 61)) ground)
    (ap (λ n. min (across (tile_of x.size v) + n * x.via) (2 ^ 61)) width))
