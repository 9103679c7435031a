use Rattle.std.proofs.Common.{arith, ◌≡◌, ℕ, rules, None, List, [], ◌∷◌, take, length, ◌≤◌, get_or, refl, sym, subst}
use Rattle.std.proofs.lemmas.List.{take_all, take_more}
use Rattle.routing_state.specs.States.{trees_of}
use Rattle.negotiation.specs.Kept.{AreKeptBut}
use Rattle.negotiation.specs.Steps.{IsRenewed}
use Rattle.negotiation.specs.Searches.{IsFoundFor}
use Rattle.negotiation.proofs.Found.{AllZip-long, found_at, found_set}
use Rattle.negotiation.proofs.Kept.{kept_beside, kept_both, kept_same}
use Rattle.negotiation.proofs.Steps.{renewed_none, renewed_then}
use Rattle.negotiation.proofs.starting.put_routes.Goals as goal

pub loop-i-init : goal.loop-i-init
loop-i-init c = record { renewed = renewed_none c.args.design.now c.args.state.now c.requires.state; kept = kept_same [] (trees_of c.args.state.now) (trees_of c.args.state.now) refl; found = c.requires.found }

pub route_of-requires-clause-found : goal.route_of-requires-clause-found
route_of-requires-clause-found c =
    let is : c.take.result ≡ get_or c.loop-i.found.items c.loop-i.i c.take.result = search rules in
    found_at c.args.design.now c.args.nets.now c.loop-i.found.items c.loop-i.i c.take.result c.loop-i.invariant.found c.loop-i-test.true is

pub put_route-requires-clause-route : goal.put_route-requires-clause-route
put_route-requires-clause-route c = c.in_ok-tree.ensures.route

pub loop-i-preserved : goal.loop-i-preserved
loop-i-preserved c =
    let d = c.args.design.now in
    let nets : List ℕ = c.args.nets.now in
    let i = c.loop-i.i in
    let gone : c.take.new.self ≡ None = search rules in
    record {
      renewed = subst (λ (ks : List ℕ). IsRenewed d ks c.args.state.now c.put_route.new.state) (sym (take_more nets i 0 c.loop-i-test.true))
          (renewed_then d (take i nets) (get_or nets i 0 ∷ []) c.args.state.now c.loop-i.state c.put_route.new.state c.loop-i.invariant.renewed c.put_route.ensures.renewed);
      kept = subst (λ (ks : List ℕ). AreKeptBut ks (trees_of c.args.state.now) (trees_of c.put_route.new.state)) (sym (take_more nets i 0 c.loop-i-test.true))
          (kept_both (take i nets) (get_or nets i 0 ∷ []) (trees_of c.args.state.now) (trees_of c.loop-i.state) (trees_of c.put_route.new.state) c.loop-i.invariant.kept
          (kept_beside (get_or nets i 0) (trees_of c.loop-i.state) (trees_of c.put_route.new.state) c.in_ok-tree.tree c.put_route.ensures.set));
      found = found_set d nets c.loop-i.found.items i c.take.new.self gone c.loop-i.invariant.found;
    }

pub index_mut-requires : goal.index_mut-requires
index_mut-requires c =
    omega (arith, c.loop-i-test.true, c.loop-i.found.ok.0, AllZip-long (IsFoundFor c.args.design.now) c.args.nets.now c.loop-i.found.items c.loop-i.invariant.found)

pub returns-clause-kept : goal.returns-clause-kept
returns-clause-kept c =
    let nets : List ℕ = c.args.nets.now in
    let over : length nets ≤ c.loop-i.i = omega (arith, c.loop-i-test.false) in
    subst (λ (ks : List ℕ). AreKeptBut ks (trees_of c.args.state.now) (trees_of c.loop-i.state)) (take_all c.loop-i.i nets over) c.loop-i.invariant.kept
