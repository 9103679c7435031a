use Rattle.std.proofs.Common.{arith, ◌≡◌, ◌≤◌, ◌+◌, ℕ, List, length, drop, slice_set, rules, None, get_or, refl, sym, ◌∙◌, ap}
use Rattle.grid_base.specs.declared.piece.Piece.{Piece}
use Rattle.routing_state.specs.States.{trees_of}
use Rattle.negotiation.specs.Offers.{with_all_found}
use Rattle.negotiation.specs.Searches.{IsFoundFor}
use Rattle.negotiation.proofs.Found.{AllZip-long, found_at, found_set}
use Rattle.negotiation.proofs.Offers.{all_found_end, all_found_more}
use Rattle.negotiation.proofs.Steps.{kept_itself, kept_then}
use Rattle.negotiation.proofs.negotiating.put_found.Goals as goal

pub loop-i-init : goal.loop-i-init
loop-i-init c = record { kept = kept_itself c.args.design.now c.args.rerouting.now c.requires.of; tools = c.requires.tools; sets = refl; found = c.requires.found }

pub put_set-requires-clause-found : goal.put_set-requires-clause-found
put_set-requires-clause-found c =
    let is : c.take.result ≡ get_or c.loop-i.found.items c.loop-i.i c.take.result = search rules in
    found_at c.args.design.now c.args.nets.now c.loop-i.found.items c.loop-i.i c.take.result c.loop-i.invariant.found c.loop-i-test.true is

pub loop-i-preserved : goal.loop-i-preserved
loop-i-preserved c =
    let gone : c.take.new.self ≡ None = search rules in
    let is : c.take.result ≡ get_or c.loop-i.found.items c.loop-i.i c.take.result = search rules in
    let nets : List ℕ = c.args.nets.now in
    let i = c.loop-i.i in
    let found = c.loop-i.found.items in
    record {
      kept = kept_then c.args.design.now c.args.rerouting.now c.loop-i.rerouting c.put_set.new.rerouting c.loop-i.invariant.kept c.put_set.ensures.kept;
      tools = c.widen_if_overfull.ensures.tools;
      sets = c.loop-i.invariant.sets
          ∙ all_found_more (trees_of c.loop-i.rerouting.state) nets found i c.take.result c.take.new.self is c.loop-i-test.true (AllZip-long (IsFoundFor c.args.design.now) nets found c.loop-i.invariant.found)
          ∙ ap (λ (sets : List (List Piece)). with_all_found sets (drop (i + 1) nets) (drop (i + 1) (slice_set found i c.take.new.self))) (sym c.put_set.ensures.sets);
      found = found_set c.args.design.now c.args.nets.now c.loop-i.found.items c.loop-i.i c.take.new.self gone c.loop-i.invariant.found;
    }

pub index_mut-requires : goal.index_mut-requires
index_mut-requires c =
    omega (arith, c.loop-i-test.true, c.loop-i.found.ok.0, AllZip-long (IsFoundFor c.args.design.now) c.args.nets.now c.loop-i.found.items c.loop-i.invariant.found)

pub returns-clause-sets : goal.returns-clause-sets
returns-clause-sets c =
    let over : length c.args.nets.now ≤ c.loop-i.i = omega (arith, c.loop-i-test.false) in
    sym (c.loop-i.invariant.sets ∙ all_found_end (trees_of c.loop-i.rerouting.state) c.args.nets.now (drop c.loop-i.i c.loop-i.found.items) c.loop-i.i over)
