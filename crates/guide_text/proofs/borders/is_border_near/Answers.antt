use Rattle.guide_text.proofs.BorderOrder.{near_by_room, room_fits, tile_fits}
use Rattle.std.specs.Prelude.{◌*◌, nat_abs}
use Rattle.guide_text.proofs.borders.is_border_near.Goals as goal

pub returns : goal.returns
returns c =
    let origin = c.args.origin in
    let tile = c.args.tile in
    rw (room_fits origin c.requires.origin, c.from.ensures, c.unsigned_abs.ensures.value, tile_fits tile c.requires.tile) (near_by_room origin (c.args.count * nat_abs tile) c.requires.origin)
