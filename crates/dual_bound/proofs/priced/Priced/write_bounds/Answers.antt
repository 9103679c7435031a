use Rattle.std.proofs.Common.{◌≤◌, ◌+◌, ◌-◌, ◌<◌, All, take, length, get_or, false, refl, sym, ◌∙◌, subst, arith}
use Rattle.std.specs.Prelude.{slice_set}
use Rattle.std.proofs.lemmas.List.{take_more, take_all, length-set}
use Rattle.std.proofs.lemmas.List.Elements.{All-push, All-take}
use Rattle.dual_bound.specs.declared.class_order.ClassedNet.{ClassedNet}
use Rattle.dual_bound.specs.ClassOrders.{IsPlaceOf, HasBoundOf}
use Rattle.dual_bound.proofs.ClassOrders.{bound_written}
use Rattle.dual_bound.proofs.priced.Priced.write_bounds.Goals as goal

pub loop-net-preserved : goal.loop-net-preserved
loop-net-preserved c =
    let p = c.args.self.now in
    let from = c.args.from in
    let nets = c.args.nets.now in
    let i = c.loop-net.net-index in
    let d : ClassedNet = record { with_choked = false; width = 0; band = 0; col = 0; place = 0 } in
    let net = get_or nets i d in
    let before = c.loop-net.invariant in
    let bounds = c.loop-net.bounds in
    let b = c.in_ok-bounds.field-0 in
    let its = c.requires.places i d c.loop-net-test.true in
    let inside : net.place - from < length bounds = omega (arith, its.0, its.1, before.long) in
    let all : All (IsPlaceOf from (from + length c.args.bounds.now)) (take i nets) = All-take (IsPlaceOf from (from + length c.args.bounds.now)) i nets c.requires.places in
    let written : (other : ClassedNet) → from ≤ other.place → HasBoundOf p from bounds other → HasBoundOf p from (slice_set bounds (net.place - from) b) other =
    λ other low had. bound_written p from bounds net b other its.0 low inside c.in_ok-bounds.ensures.bound (λ _. had) in
    let here : HasBoundOf p from (slice_set bounds (net.place - from) b) net = bound_written p from bounds net b net its.0 its.0 inside c.in_ok-bounds.ensures.bound (λ differs. absurd (differs refl)) in
    record {
      long = length-set bounds (net.place - from) b ∙ before.long;
      bounds = subst (All (HasBoundOf p from (slice_set bounds (net.place - from) b))) (sym (take_more nets i d c.loop-net-test.true))
          (All-push (HasBoundOf p from (slice_set bounds (net.place - from) b)) (take i nets) net (λ k e low. written (get_or (take i nets) k e) (all k e low).0 (before.bounds k e low)) here);
      costs = c.in_ok-bounds.ensures.costs;
      labels = c.in_ok-bounds.ensures.labels;
    }

pub returns-clause-bounds : goal.returns-clause-bounds
returns-clause-bounds c =
    let nets = c.args.nets.now in
    subst (All (HasBoundOf c.args.self.now c.args.from c.loop-net.bounds)) (take_all c.loop-net.net-index nets (omega (arith, c.loop-net-test.false))) c.loop-net.invariant.bounds
