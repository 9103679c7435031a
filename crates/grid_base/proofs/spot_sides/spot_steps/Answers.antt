use Rattle.std.proofs.Common.{◌≡◌, refl, ◌∙◌, ap, arith}
use Rattle.grid_base.specs.Neighbours.{west, east, south, north, down, up}
use Rattle.grid_base.specs.Spots.{spotted}
use Rattle.grid_base.proofs.Extents.{cols_within, rows_within}
use Rattle.grid_base.proofs.Spots.{arriving, arrives_west, arrives_east, arrives_south, arrives_north, arrives_down, arrives_up}
use Rattle.grid_base.proofs.spot_sides.spot_steps.Goals as goal

pub returns : goal.returns
returns c =
    let s = c.args.size in
    let p = c.args.from.place in
    let v = c.args.from.vertex.0 in
    let is = c.requires in
    let to_west : c.arriving.result ≡ spotted s (west s v) =
    c.arriving.ensures ∙ ap (arriving _) c.west.ensures ∙ arrives_west s v p c.saturating_sub.result is.vertex is.placed c.saturating_sub.ensures in
    let to_east : c.arriving-2.result ≡ spotted s (east s v) =
    c.arriving-2.ensures ∙ ap (arriving _) c.east.ensures ∙ arrives_east s v p c.saturating_add.result is.vertex is.placed (λ room. omega (arith, room, cols_within s.cols s.rows s.layers s.within, c.saturating_add.ensures)) in
    let to_south : c.arriving-3.result ≡ spotted s (south s v) =
    c.arriving-3.ensures ∙ ap (arriving _) c.south.ensures ∙ arrives_south s v p c.saturating_sub-2.result is.vertex is.placed c.saturating_sub-2.ensures in
    let to_north : c.arriving-4.result ≡ spotted s (north s v) =
    c.arriving-4.ensures ∙ ap (arriving _) c.north.ensures ∙ arrives_north s v p c.saturating_add-2.result is.vertex is.placed (λ room. omega (arith, room, rows_within s.cols s.rows s.layers s.within, c.saturating_add-2.ensures)) in
    let to_down : c.arriving-5.result ≡ spotted s (down s v) =
    c.arriving-5.ensures ∙ ap (arriving _) c.down.ensures ∙ arrives_down s v p c.saturating_sub-3.result is.vertex is.placed c.saturating_sub-3.ensures in
    let to_up : c.arriving-6.result ≡ spotted s (up s v) =
    c.arriving-6.ensures ∙ ap (arriving _) c.up.ensures ∙ arrives_up s v p c.saturating_add-3.result is.vertex is.placed (λ room. omega (arith, room, s.within.layer_limit, c.saturating_add-3.ensures)) in
    rw (to_west, to_east, to_south, to_north, to_down, to_up) refl
