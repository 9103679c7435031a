use Rattle.std.proofs.Common.{arith}
use Rattle.label_search.proofs.Finding.{AreFound-more, room_for, spot_put, unfound}
use Rattle.label_search.proofs.found.Found.enter.Goals as goal

pub pad_to-requires : goal.pad_to-requires
pad_to-requires c =
    let f = c.args.self.now in
    let v = c.args.to.vertex.0 in
    record { room = omega (arith, room_for f v c.requires.spot.vertex (unfound f v c.requires.other), f.room) }

pub invariant_of-self : goal.invariant_of-self
invariant_of-self c =
    let f = c.args.self.now in
    let v = c.args.to.vertex.0 in
    let new = unfound f v c.requires.other in
    let put = spot_put f.spots.items c.pad_to.new.items.items f.len c.args.to f.found.spot_count c.pad_to.ensures.items in
    record {
      found = AreFound-more f.size f.slots.items f.spots.items _ f.len f.present c.args.to f.found c.requires.spot new (room_for f v c.requires.spot.vertex new) put;
      room = omega (arith, f.room, c.pad_to.ensures.capacity);
    }
