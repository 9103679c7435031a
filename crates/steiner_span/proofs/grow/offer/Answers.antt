use Rattle.std.proofs.Common.{◌<◌, arith}
use Rattle.shortest_paths.specs.LabelWords.{labels_number}
use Rattle.steiner_span.proofs.Growing.{lowered_keys, lowered_takes}
use Rattle.steiner_span.proofs.grow.offer.Goals as goal

pub returns-then-offered-number-clause-keys : goal.returns-then-offered-number-clause-keys
returns-then-offered-number-clause-keys g c =
    let less : c.args.offered < labels_number c.args.labels.now c.args.to.vertex.0 = omega (arith, c.number-number.ensures.number, c.if-offered-number.true) in
    lowered_keys (g.B.Bound.rest c.args.bound.now) c.args.labels.now c.lower.new.self c.args.to.vertex.0 c.args.offered c.lowered_key-key.result c.requires.keys less
    (omega (arith, c.number-number.ensures.number, c.number-number.ensures.limit)) c.lowered_key-key.ensures.low c.lowered_key-key.ensures.high c.lower.ensures

pub returns-then-offered-number-clause-taken : goal.returns-then-offered-number-clause-taken
returns-then-offered-number-clause-taken g c =
    let less : c.args.offered < labels_number c.args.labels.now c.args.to.vertex.0 = omega (arith, c.number-number.ensures.number, c.if-offered-number.true) in
    lowered_takes c.args.labels.now c.lower.new.self c.args.to.vertex.0 c.args.offered c.lowered_key-key.result less c.lower.ensures
