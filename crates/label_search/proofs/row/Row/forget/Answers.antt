use Rattle.std.proofs.Common.{◌∙◌, sym, ap, arith}
use Rattle.grid_base.specs.Numbers.{vertices}
use Rattle.label_search.proofs.row.Row.forget.Goals as goal

pub invariant_of-self : goal.invariant_of-self
invariant_of-self c =
    let r = c.clear.new.self in
    let same = ap vertices (sym c.forget.ensures.size) in
    record {
      parts = record {
        count = omega (arith, r.parts.count, same);
        found_count = omega (arith, c.forget.ensures.none);
        room = r.parts.room ∙ same;
        limits = r.parts.limits;
        beyond = λ i past. c.clear.ensures.erased i;
        waiting = λ i key held. absurd (c.clear.ensures.idle i key held);
      };
      numbers_room = omega (arith, r.numbers_room, same);
    }
