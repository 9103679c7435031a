use Rattle.std.proofs.Common.{arith, ◌≡◌, rules, None, get_or}
use Rattle.negotiation.specs.Searches.{IsFoundFor}
use Rattle.negotiation.proofs.Found.{AllZip-long, found_at, found_set}
use Rattle.negotiation.proofs.Steps.{improved_itself, improved_then}
use Rattle.negotiation.proofs.descending.offer_found.Goals as goal

pub loop-i-init : goal.loop-i-init
loop-i-init c = record { improved = improved_itself c.args.design.now c.args.state.now c.requires.state; found = c.requires.found }

pub offer_set-requires-clause-found : goal.offer_set-requires-clause-found
offer_set-requires-clause-found c =
    let is : c.take.result ≡ get_or c.loop-i.found.items c.loop-i.i c.take.result = search rules in
    found_at c.args.design.now c.args.nets.now c.loop-i.found.items c.loop-i.i c.take.result c.loop-i.invariant.found c.loop-i-test.true is

pub loop-i-preserved : goal.loop-i-preserved
loop-i-preserved c =
    let gone : c.take.new.self ≡ None = search rules in
    record {
      improved = improved_then c.args.design.now c.args.state.now c.loop-i.state c.offer_set.new.state c.loop-i.invariant.improved c.offer_set.ensures.improved;
      found = found_set c.args.design.now c.args.nets.now c.loop-i.found.items c.loop-i.i c.take.new.self gone c.loop-i.invariant.found;
    }

pub index_mut-requires : goal.index_mut-requires
index_mut-requires c =
    omega (arith, c.loop-i-test.true, c.loop-i.found.ok.0, AllZip-long (IsFoundFor c.args.design.now) c.args.nets.now c.loop-i.found.items c.loop-i.invariant.found)
