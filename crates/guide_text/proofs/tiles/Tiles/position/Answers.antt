use Rattle.guide_text.proofs.Found.{tile_found}
use Rattle.guide_text.proofs.tiles.Tiles.position.Goals as goal

pub returns-in-Some : goal.returns-in-Some
returns-in-Some c =
    let tiles = c.args.self.now in
    tile_found tiles.size tiles.numbers.items c.args.from c.in-Some.v.0 c.place_of_number.result c.in-Some.ensures.number c.in-Some.ensures.place c.place_of_number.ensures
