use Rattle.std.proofs.Common.{rules, sym, ◌∙◌, subst, SFits, w64}
use Rattle.std.proofs.lemmas.Int.{to_z-of_z}
use Rattle.grid_base.specs.declared.size.Size.{Size}
use Rattle.grid_base.specs.Numbers.{layers, IsInside}
use Rattle.grid_graph.specs.Grids.{size_of}
use Rattle.eco_route.proofs.PinPlaces.{not_above, tile_inside}
use Rattle.eco_route.proofs.pins.vertex_of.Goals as goal

pub layer_of-requires-clause-high : goal.layer_of-requires-clause-high
layer_of-requires-clause-high c =
    let z = c.args.pin.layer in
    let fits : SFits w64 z = search rules in
    rw (to_z-of_z w64 z fits) (not_above z (layers (size_of c.args.grid.now)) c.requires.layer)

pub unwrap-requires : goal.unwrap-requires
unwrap-requires c =
    let g = c.args.grid.now in
    let tile = tile_inside g _ _ c.unwrap-col.result (sym c.tile_of.ensures ∙ search rules) in
    c.vertex_of.ensures.inside.1 (subst (λ (s : Size). IsInside s (record { col = c.unwrap-col.result.0; row = c.unwrap-col.result.1; layer = c.layer_of.result })) (sym c.size.ensures) (tile.0, tile.1, c.layer_of.ensures.within))
