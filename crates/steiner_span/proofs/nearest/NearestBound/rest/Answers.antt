use Rattle.std.proofs.Common.{◌≡◌, ◌<◌, ◌≤◌, List, length, take, get_or, sym, ◌∙◌, ap, subst, arith}
use Rattle.std.proofs.lemmas.Grind.{common_steps}
use Rattle.std.proofs.lemmas.List.Elements.{All-more, All-weaker, All-contains, Contains-get_or}
use Rattle.grid_base.specs.declared.place.Place.{Place}
use Rattle.label_search.specs.Floors.{floor_distance, floor_rest}
use Rattle.label_search.proofs.FloorSteps.{floor_rest-vertex}
use Rattle.steiner_span.proofs.LeastRest.{least_far, least_below, least_above}
use Rattle.steiner_span.proofs.nearest.NearestBound.rest.Goals as goal

pub loop-goal-init : goal.loop-goal-init
loop-goal-init g c =
    let x = c.args.self.now in
    record {
      small = omega arith;
      above = least_far x.size x.floors x.left.items c.args._v.0;
      below = λ k d low. absurd (omega (arith, low));
    }

pub loop-goal-preserved : goal.loop-goal-preserved
loop-goal-preserved g c =
    let x = c.args.self.now in
    let v = c.args._v.0 in
    let i = c.loop-goal.goal-index in
    let before = c.loop-goal.invariant in
    let none : Place = record { col = 0; row = 0; layer = 0 } in
    let same : c.deref-goal-items.result.now ≡ x.left.items = c.deref-goal-items.ensures.value in
    let test : i < length x.left.items = subst (λ (xs : List Place). i < length xs) same c.loop-goal-test.true in
    let goal : Place = get_or x.left.items i none in
    let value : c.apart.result ≡ floor_distance x.floors c.args.place goal = c.apart.ensures.value ∙ ap (λ (xs : List Place). floor_distance x.floors c.args.place (get_or xs i none)) same in
    let way : floor_rest x.size x.floors goal v ≡ floor_distance x.floors c.args.place goal =
    floor_rest-vertex x.size x.floors goal v c.requires.vertex ∙ ap (λ (p : Place). floor_distance x.floors p goal) (sym c.requires.place) in
    record {
      small = omega (arith, before.small, c.min-least.ensures);
      above = omega (arith, before.above, c.min-least.ensures, value, way, least_below x.size x.floors x.left.items v goal (Contains-get_or x.left.items i none test));
      below = All-more (λ (p : Place). c.min-least.result ≤ floor_distance x.floors c.args.place p) x.left.items i none test
          (All-weaker (λ (p : Place). c.loop-goal.least ≤ floor_distance x.floors c.args.place p) (λ (p : Place). c.min-least.result ≤ floor_distance x.floors c.args.place p)
          (λ p low. omega (arith, low, c.min-least.ensures)) (take i x.left.items) before.below)
          (omega (arith, c.min-least.ensures, value));
    }

pub returns-clause-value : goal.returns-clause-value
returns-clause-value g c =
    let x = c.args.self.now in
    let v = c.args._v.0 in
    let left = x.left.items in
    let before = c.loop-goal.invariant in
    let all : take c.loop-goal.goal-index left ≡ left = grind (arith, common_steps) in
    let below = rw all at before.below in
    omega (
      arith,
      before.above,
      least_above x.size x.floors left v c.loop-goal.least before.small
          (λ p at. omega (
            arith,
            All-contains (λ (q : Place). c.loop-goal.least ≤ floor_distance x.floors c.args.place q) left p below at,
            floor_rest-vertex x.size x.floors p v c.requires.vertex,
            ap (λ (q : Place). floor_distance x.floors q p) c.requires.place,
          )),
    )
