use Rattle.guide_text.proofs.Found.{found_by_search}
use Rattle.guide_text.proofs.tiles.Tiles.place_of_number.Goals as goal

pub returns : goal.returns
returns c =
    let tiles = c.args.self.now in
    rw c.ok.ensures.value (found_by_search tiles.numbers.items c.args.number c.binary_search.result tiles.rising (rw c.as_slice.ensures.value at c.binary_search.ensures.position))
