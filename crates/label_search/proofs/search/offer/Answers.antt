use Rattle.std.proofs.Common.{◌+◌, arith}
use Rattle.label_search.proofs.Offers.{lowered, lowered_search, lowered_taken}
use Rattle.label_search.proofs.search.offer.Goals as goal

pub lower-requires-clause-key : goal.lower-requires-clause-key
lower-requires-clause-key g c = λ k waits.
    omega (
      arith,
      c.requires.search.keys c.args.to.vertex.0 k waits,
      c.number.ensures.number,
      c.if-offered-number.true,
      c.rest.ensures.value,
    )

pub returns-then-key-limit-clause-search : goal.returns-then-key-limit-clause-search
returns-then-key-limit-clause-search g c =
    let l = c.lower.ensures in
    let low = lowered c.args.row.now c.lower.new.self c.args.to.vertex.0 c.args.offered (c.args.offered + c.rest.result) l.found
    (omega (arith, c.number.ensures.number, c.if-offered-number.true)) l.number l.others l.total l.count l.placed l.kept l.only in
    lowered_search c.args.row.now c.lower.new.self (g.B.Bound.rest c.args.bound.now) c.args.limit c.args.to.vertex.0 c.args.offered
    (c.args.offered + c.rest.result) c.requires.search low (omega (arith, c.number.ensures.number, c.number.ensures.limit))
    (omega (arith, c.rest.ensures.value)) c.if-key-limit.true

pub returns-then-key-limit-clause-taken : goal.returns-then-key-limit-clause-taken
returns-then-key-limit-clause-taken g c =
    let l = c.lower.ensures in
    let low = lowered c.args.row.now c.lower.new.self c.args.to.vertex.0 c.args.offered (c.args.offered + c.rest.result) l.found
    (omega (arith, c.number.ensures.number, c.if-offered-number.true)) l.number l.others l.total l.count l.placed l.kept l.only in
    lowered_taken c.args.row.now c.lower.new.self c.args.to.vertex.0 c.args.offered (c.args.offered + c.rest.result) low
