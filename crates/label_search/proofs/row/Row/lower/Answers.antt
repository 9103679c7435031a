use Rattle.std.proofs.Common.{ap, arith}
use Rattle.grid_base.specs.Numbers.{vertices}
use Rattle.label_search.specs.Founds.{index_in}
use Rattle.label_search.specs.Stamped.{far}
use Rattle.label_search.proofs.Padded.{IsPadded, is_padded}
use Rattle.label_search.proofs.RowSteps.{IsEntered, IsLoweredAt, entered_room, lowered_parts, lowered_others, lowered_total, lowered_kept, lowered_only, entered_key}
use Rattle.label_search.proofs.row.Row.lower.Goals.{After-find-index, After-pad_to, After-lower}
use Rattle.label_search.proofs.row.Row.lower.Goals as goal

entered : (c : After-find-index) → IsEntered c.args.self.now.found c.find-index.new.self c.args.to.vertex.0 c.find-index.result
entered c = let e = c.find-index.ensures in record { more = e.more; index = e.index; inside = e.inside; others = e.others; before = e.before }

grown : (c : After-pad_to) → IsPadded c.args.self.now.numbers.items c.pad_to.new.items.items c.find-index.result far
grown c = is_padded c.args.self.now.numbers.items c.pad_to.new.items.items c.find-index.result far c.pad_to.ensures.items

lowered : (c : After-lower) → IsLoweredAt c.args.self.now.heap c.lower.new.self c.find-index.result c.args.key
lowered c = let l = c.lower.ensures in record { room = l.room; kept = l.kept; only = l.only }

pub pad_to-requires : goal.pad_to-requires
pad_to-requires c =
    let r = c.args.self.now in
    record { room = omega (arith, entered_room r.found c.find-index.new.self c.args.to.vertex.0 c.find-index.result (entered (goal.at.pad_to-requires c).After-find-index), r.numbers_room) }

pub lower-requires-clause-lower : goal.lower-requires-clause-lower
lower-requires-clause-lower c = λ k held.
    let r = c.args.self.now in
    let at = goal.at.lower-requires-clause-lower c in
    c.requires.key k (entered_key r.found c.find-index.new.self r.numbers.items r.heap c.args.to.vertex.0 c.find-index.result k r.parts (entered at.After-find-index) held)

pub invariant_of-self : goal.invariant_of-self
invariant_of-self c =
    let r = c.args.self.now in
    let at = goal.at.invariant_of-self c in
    record {
      parts = lowered_parts r.found c.find-index.new.self r.numbers.items c.pad_to.new.items.items r.heap c.lower.new.self c.args.to.vertex.0 c.find-index.result c.args.number c.args.key r.parts (entered at.After-find-index) (grown at.After-pad_to) (omega (arith, c.requires.less, r.parts.limits (index_in r.found c.args.to.vertex.0))) (lowered at.After-lower);
      numbers_room = omega (arith, r.numbers_room, c.pad_to.ensures.capacity, ap vertices c.find-index.ensures.more.size);
    }

pub returns-clause-others : goal.returns-clause-others
returns-clause-others c = λ u other.
    let r = c.args.self.now in
    let at = goal.at.returns-clause-others c in
    lowered_others r.found c.find-index.new.self r.numbers.items c.pad_to.new.items.items c.args.to.vertex.0 c.find-index.result c.args.number u (entered at.After-find-index) (grown at.After-pad_to) other

pub returns-clause-total : goal.returns-clause-total
returns-clause-total c =
    let r = c.args.self.now in
    let at = goal.at.returns-clause-total c in
    lowered_total r.found c.find-index.new.self r.numbers.items c.pad_to.new.items.items r.heap c.args.to.vertex.0 c.find-index.result c.args.number r.parts (entered at.After-find-index) c.pad_to.ensures.items

pub returns-clause-kept : goal.returns-clause-kept
returns-clause-kept c = λ u k other held.
    let r = c.args.self.now in
    let at = goal.at.returns-clause-kept c in
    lowered_kept r.found c.find-index.new.self r.numbers.items r.heap c.lower.new.self c.args.to.vertex.0 c.find-index.result c.args.key u k r.parts (entered at.After-find-index) (lowered at.After-lower) other held

pub returns-clause-only : goal.returns-clause-only
returns-clause-only c = λ u k held.
    let r = c.args.self.now in
    let at = goal.at.returns-clause-only c in
    lowered_only r.found c.find-index.new.self r.numbers.items r.heap c.lower.new.self c.args.to.vertex.0 c.find-index.result c.args.key u k r.parts (entered at.After-find-index) (lowered at.After-lower) held
