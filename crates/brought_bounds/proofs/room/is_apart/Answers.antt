use Rattle.std.proofs.Common.{get_or}
use Rattle.std.proofs.lemmas.Option.{slice_get-get_or}
use Rattle.brought_bounds.proofs.Apart.{AreTold, room_is_apart, apart_is_room}
use Rattle.brought_bounds.proofs.room.is_apart.Goals as goal

pub returns-clause-apart : goal.returns-clause-apart
returns-clause-apart g c =
    let s = g.W.Weights.size c.args.weights.now in
    let pieces = g.W.Weights.pieces c.args.weights.now in
    let terminals = c.args.terminals.now in
    let are : AreTold s pieces terminals c.args.place c.distances.new.self = record {
      from = get_or terminals c.args.place (record { 0 = 0 });
      stands = slice_get-get_or terminals c.args.place (record { 0 = 0 }) c.requires.place;
      source = c.distances.ensures.source;
      distances = c.distances.ensures.stops;
    } in (
      λ room. room_is_apart s pieces terminals c.args.radii.now c.args.place c.distances.new.self are
          (c.has_room_everywhere.ensures.0 room),
      λ apart. c.has_room_everywhere.ensures.1 (apart_is_room s pieces terminals c.args.radii.now c.args.place
          c.distances.new.self are apart),
    )
