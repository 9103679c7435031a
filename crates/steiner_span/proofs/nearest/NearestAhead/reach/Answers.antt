use Rattle.std.proofs.Common.{◌≡◌, ◌<◌, List, get_or, length, subst}
use Rattle.grid_base.specs.declared.place.Place.{Place}
use Rattle.grid_base.specs.Numbers.{IsInside}
use Rattle.steiner_span.proofs.LeastRest.{less_one, least_near, least_slow, fewer_left, still_standing, all_listed}
use Rattle.steiner_span.proofs.nearest.NearestAhead.reach.Goals as goal

pub invariant_of-self : goal.invariant_of-self
invariant_of-self g c =
    let x = c.args.self.now in
    let place = c.args.at.place in
    let at = subst (λ (xs : List Place). (c.in-Some.i < length xs) × (get_or xs c.in-Some.i place ≡ place)) c.as_slice.ensures.value c.in-Some.ensures in
    let new = c.remove.new.self.items in
    let less = less_one x.left.items new c.in-Some.i place at c.remove.ensures.items in
    record {
      sized = x.sized;
      within = x.within;
      inside = all_listed (IsInside x.size) x.left.items new less.before x.inside;
      below = x.below;
      near = least_near x.size x.floors new;
      slow = least_slow x.size x.floors (g.W.Weights.pieces x.weights.now) new x.below;
    }

pub returns-in-Some-clause-more : goal.returns-in-Some-clause-more
returns-in-Some-clause-more g c =
    let x = c.args.self.now in
    let place = c.args.at.place in
    let at = subst (λ (xs : List Place). (c.in-Some.i < length xs) × (get_or xs c.in-Some.i place ≡ place)) c.as_slice.ensures.value c.in-Some.ensures in
    let less = less_one x.left.items c.remove.new.self.items c.in-Some.i place at c.remove.ensures.items in
    fewer_left x.size x.floors x.left.items c.remove.new.self.items less.before

pub returns-in-Some-clause-left : goal.returns-in-Some-clause-left
returns-in-Some-clause-left g c =
    let x = c.args.self.now in
    let place = c.args.at.place in
    let at = subst (λ (xs : List Place). (c.in-Some.i < length xs) × (get_or xs c.in-Some.i place ≡ place)) c.as_slice.ensures.value c.in-Some.ensures in
    let less = less_one x.left.items c.remove.new.self.items c.in-Some.i place at c.remove.ensures.items in
    still_standing x.size x.left.items c.remove.new.self.items c.args.at less c.requires
