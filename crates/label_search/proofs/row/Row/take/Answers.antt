use Rattle.std.proofs.Common.{sym, ◌∙◌, ap, subst}
use Rattle.label_search.specs.Founds.{index_in}
use Rattle.label_search.specs.Held.{IsHeld}
use Rattle.label_search.proofs.Finding.{index_in-differ}
use Rattle.label_search.proofs.row.Row.take.Goals as goal

pub invariant_of-self : goal.invariant_of-self
invariant_of-self c =
    let r = c.args.self.now in
    record {
      parts = record {
        count = r.parts.count;
        found_count = r.parts.found_count;
        room = c.take-index.ensures.room ∙ r.parts.room;
        limits = r.parts.limits;
        beyond = r.parts.beyond;
        waiting = λ i key held. r.parts.waiting i key (c.take-index.ensures.only i key held).1;
      };
      numbers_room = r.numbers_room;
    }

pub spot-requires : goal.spot-requires
spot-requires c =
    let least = c.take-index.ensures.least in
    c.args.self.now.parts.waiting c.take-index.result least.key least.held

pub returns-clause-least : goal.returns-clause-least
returns-clause-least c =
    let r = c.args.self.now in
    let least = c.take-index.ensures.least in
    record {
      key = least.key;
      waits = subst (λ i. IsHeld r.heap i least.key) (sym c.spot.ensures.index) least.held;
      least = λ u k waits. least.least (index_in r.found u) k waits;
    }

pub returns-clause-kept : goal.returns-clause-kept
returns-clause-kept c = λ u k other waits.
    let r = c.args.self.now in
    c.take-index.ensures.kept (index_in r.found u) k
    (λ same. other (index_in-differ r.found u c.spot.result.vertex.0 (r.parts.waiting (index_in r.found u) k waits) (same ∙ sym c.spot.ensures.index))) waits

pub returns-clause-only : goal.returns-clause-only
returns-clause-only c = λ u k held.
    let r = c.args.self.now in
    let old = c.take-index.ensures.only (index_in r.found u) k held in
    (λ same. old.0 (ap (index_in r.found) same ∙ c.spot.ensures.index), old.1)
