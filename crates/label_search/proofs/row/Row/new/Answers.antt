use Rattle.std.proofs.Common.{◌≡◌, get_or, ℕ, arith}
use Rattle.std.proofs.lemmas.Grind.{common_steps}
use Rattle.label_search.specs.Stamped.{far}
use Rattle.label_search.proofs.row.Row.new.Goals as goal

pub invariant_of-result : goal.invariant_of-result
invariant_of-result c =
    let none = c.in_ok-numbers.ensures.items in
    let all_far : (i : ℕ) → get_or c.in_ok-numbers.numbers.items i far ≡ far = λ i. grind (arith, common_steps, none) in
    record {
      parts = record {
        count = grind (arith, common_steps, none);
        found_count = omega (arith, c.in_ok-found.ensures.none);
        room = grind (arith, common_steps, c.in_ok-heap.ensures.room, c.in_ok-found.ensures.size, c.vertices-vertices.ensures);
        limits = λ i. omega (arith, all_far i);
        beyond = λ i past. all_far i;
        waiting = λ i key held. absurd (omega (arith, held.inside, c.in_ok-heap.ensures.empty));
      };
      numbers_room = grind (arith, common_steps, c.in_ok-numbers.ensures.capacity, c.in_ok-found.ensures.size, c.vertices-vertices.ensures);
    }
