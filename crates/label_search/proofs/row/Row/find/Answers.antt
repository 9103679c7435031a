use Rattle.std.proofs.Common.{ap, arith}
use Rattle.grid_base.specs.Numbers.{vertices}
use Rattle.label_search.specs.Stamped.{far}
use Rattle.label_search.proofs.Padded.{is_padded}
use Rattle.label_search.proofs.RowSteps.{IsEntered, entered_room, entered_parts, entered_numbers}
use Rattle.label_search.proofs.row.Row.find.Goals.{After-find-index}
use Rattle.label_search.proofs.row.Row.find.Goals as goal

entered : (c : After-find-index) → IsEntered c.args.self.now.found c.find-index.new.self c.args.to.vertex.0 c.find-index.result
entered c = let e = c.find-index.ensures in record { more = e.more; index = e.index; inside = e.inside; others = e.others; before = e.before }

pub pad_to-requires : goal.pad_to-requires
pad_to-requires c =
    let r = c.args.self.now in
    record { room = omega (arith, entered_room r.found c.find-index.new.self c.args.to.vertex.0 c.find-index.result (entered (goal.at.pad_to-requires c).After-find-index), r.numbers_room) }

pub invariant_of-self : goal.invariant_of-self
invariant_of-self c =
    let r = c.args.self.now in
    let at = (goal.at.invariant_of-self c).After-find-index in
    let i = c.find-index.result in
    let grown = is_padded r.numbers.items c.pad_to.new.items.items i far c.pad_to.ensures.items in
    record {
      parts = entered_parts r.found c.find-index.new.self r.numbers.items c.pad_to.new.items.items r.heap c.args.to.vertex.0 i r.parts (entered at) grown;
      numbers_room = omega (arith, r.numbers_room, c.pad_to.ensures.capacity, ap vertices c.find-index.ensures.more.size);
    }

pub returns-clause-numbers : goal.returns-clause-numbers
returns-clause-numbers c = λ v.
    let r = c.args.self.now in
    let at = (goal.at.returns-clause-numbers c).After-find-index in
    let i = c.find-index.result in
    let grown = is_padded r.numbers.items c.pad_to.new.items.items i far c.pad_to.ensures.items in
    entered_numbers r.found c.find-index.new.self r.numbers.items c.pad_to.new.items.items r.heap c.args.to.vertex.0 i v r.parts (entered at) grown
